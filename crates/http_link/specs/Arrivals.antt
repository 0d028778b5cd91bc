-- How far a request has come.
use Rattle.std.specs.Prelude.{ℕ, List, length, drop, nat_le, Bool, ◌-◌, codes}
use Rattle.std.specs.Str.{bytes_eq}
use Rattle.http_link.specs.declared.bodies.Framing.{Framing}
use Rattle.http_link.specs.declared.bodies.Framing.TheVariants.{Sized, Chunked}

-- so many bytes are there, or the last chunk, which has no trailers, is at the end (RFC 9112, 6.2 and 7.1)
abbrev pub has_come : Framing → List ℕ → Bool
has_come (Sized size) rest = nat_le size (length rest)
has_come (Chunked most) rest = bytes_eq (drop (length rest - 5) rest) (codes "0\r\n\r\n")
