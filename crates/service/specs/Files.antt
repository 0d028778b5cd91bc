-- How many files a service may have open at once.
use Rattle.std.specs.Prelude.{ℕ, ◌+◌, ◌*◌}

-- one for each connection, each exchange with a peer and each of 16 connections at each door beside that of the packets, and eight more
abbrev pub files_of : (connections exchanges doors : ℕ) → ℕ
files_of connections exchanges doors = connections + exchanges + 16 * doors + 8
