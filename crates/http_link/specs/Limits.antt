-- The limits of requests and answers.
use Rattle.std.specs.Prelude.{ℕ, ◌+◌}
use Rattle.http_link.specs.declared.chunks.TheConstants.{MAX_CHUNK_LINE}
use Rattle.http_link.specs.declared.head.TheConstants.{MAX_HEAD, MAX_LINES}
use Rattle.http_link.specs.declared.line_buffer.TheConstants.{MAX_WRITTEN}
use Rattle.http_link.specs.declared.posting.TheConstants.{MAX_PEER_ANSWER, MAX_HEADS}
use Rattle.http_link.specs.declared.request.TheConstants.{MAX_BODY, MAX_COMMAND}
use Rattle.http_link.specs.declared.streams.TheConstants.{MAX_READS}

-- the most bytes of a head, with the empty lines before it and the one that ends it
abbrev pub max_head : ℕ
max_head = MAX_HEAD

-- the most field lines of a head
abbrev pub max_lines : ℕ
max_lines = MAX_LINES

-- the most bytes of the line of a chunk, with its end
abbrev pub max_chunk_line : ℕ
max_chunk_line = MAX_CHUNK_LINE

-- the most bytes of a request's body
abbrev pub max_body : ℕ
max_body = MAX_BODY

-- the most bytes of a command's body
abbrev pub max_command : ℕ
max_command = MAX_COMMAND

-- the most bytes of a request
abbrev pub max_request : ℕ
max_request = max_head + max_body

-- the most bytes of an answer's body
abbrev pub max_peer_answer : ℕ
max_peer_answer = MAX_PEER_ANSWER

-- the most heads of an answer, all but the last interim ones
abbrev pub max_heads : ℕ
max_heads = MAX_HEADS

-- the most bytes of a head that we write
abbrev pub max_written : ℕ
max_written = MAX_WRITTEN

-- the most reads for a request or an answer, and writes for a text
abbrev pub max_turns : ℕ
max_turns = MAX_READS
