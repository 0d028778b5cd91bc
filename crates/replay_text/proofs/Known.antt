-- Known bytes that grow in turn, and of which nothing is taken.
use Rattle.std.proofs.Common.{ℕ, ◌+◌, List, [], take, drop, Option, sym, subst, append-nil}
use Rattle.std.proofs.KnownBytes.{Appends-trans, Consumes-nil}
use Rattle.std.proofs.Math.Seq.{take-add}
use Rattle.std.specs.Io.KnownBytes.{Appends}
use Rattle.replay_text.specs.Streams.{TakesBehind}

-- first i bytes of the text were written, and then n more
pub Appends-more : (old between new : Option (List ℕ)) (text : List ℕ) (i n : ℕ) → Appends old between (take i text) → Appends between new (take n (drop i text)) → Appends old new (take (i + n) text)
Appends-more old between new text i n a b = subst (Appends old new) (sym (take-add i n text)) (Appends-trans old between new (take i text) (take n (drop i text)) a b)

-- nothing was taken
pub takes_none : (old : Option (List ℕ)) (text : List ℕ) → TakesBehind old old text text
takes_none old text = ([], Consumes-nil old, sym (append-nil text))
