-- Peers that one record more adds.
use Rattle.std.proofs.Common.{◌≡◌, ℕ, ◌+◌, List, [], ◌∷◌, ◌++◌, take, ap, sym, ◌∙◌}
use Rattle.std.specs.Prelude.{Some}
use Rattle.std.specs.List.{slice_get}
use Rattle.std.proofs.lemmas.List.{append-nil, append_assoc, take_more}
use Rattle.std.proofs.lemmas.List.Sums.{fold_push}
use Rattle.std.proofs.lemmas.Option.{slice_get_within, get_or_from_slice_get}
use Rattle.statements.specs.Seen.{next_after, seen_added, seen_among}
use Rattle.statements.specs.declared.seen.PeerSeen.{PeerSeen}
use Rattle.tenant_core.specs.Peers.{next_by}
use Rattle.tenant_core.specs.declared.journal.Record.{Record}

among_more : (n : ℕ) (rs : List Record) (r : Record)
    → seen_among n (rs ++ r ∷ []) ≡ seen_among n rs ++ seen_added (next_after n rs) r.entry
among_more n [] r = append-nil (seen_added n r.entry)
among_more n (q ∷ rs) r =
    ap (λ (xs : List PeerSeen). seen_added n q.entry ++ xs) (among_more (next_by n q.entry) rs r)
    ∙ sym (append_assoc (seen_added n q.entry) (seen_among (next_by n q.entry) rs) (seen_added (next_after (next_by n q.entry) rs) r.entry))

one_more_record : (rs : List Record) (k : ℕ) (r : Record) → slice_get rs k ≡ Some r → take (k + 1) rs ≡ take k rs ++ r ∷ []
one_more_record rs k r at =
    take_more rs k r (slice_get_within rs k r at) ∙ ap (λ (x : Record). take k rs ++ x ∷ []) (get_or_from_slice_get rs k r r at)

pub next_more : (n : ℕ) (rs : List Record) (k : ℕ) (r : Record) → slice_get rs k ≡ Some r
    → next_after n (take (k + 1) rs) ≡ next_by (next_after n (take k rs)) r.entry
next_more n rs k r at =
    ap (next_after n) (one_more_record rs k r at) ∙ fold_push (λ m x. next_by m x.entry) n (take k rs) r

pub seen_more : (n : ℕ) (rs : List Record) (k : ℕ) (r : Record) → slice_get rs k ≡ Some r
    → seen_among n (take (k + 1) rs) ≡ seen_among n (take k rs) ++ seen_added (next_after n (take k rs)) r.entry
seen_more n rs k r at = ap (seen_among n) (one_more_record rs k r at) ∙ among_more n (take k rs) r
