-- Commits, one more.
use Rattle.std.proofs.Common.{◌≡◌, ◌⊎◌, ℕ, List, [], ◌∷◌, ◌++◌, append_assoc, append-nil, refl, sym, ap, ◌∙◌, inl, inr}
use Rattle.book_journal.specs.Written.{commit_text, sum_after_commit}
use Rattle.book_log.specs.Sums.{sum_line, summed}
use Rattle.line_log.specs.Log.{all_of, lines}
use Rattle.sha2.specs.Sha256.{sha256}

-- the sum after the last of some texts
abbrev pub last_sum : List ℕ → List (List ℕ) → List ℕ
last_sum sum [] = sum
last_sum sum (text ∷ texts) = last_sum (sha256 (sum ++ text)) texts

pub summed_more : (texts : List (List ℕ)) (sum text : List ℕ)
    → summed sum (texts ++ text ∷ []) ≡ summed sum texts ++ (text ++ sum_line (sha256 (last_sum sum texts ++ text)))
summed_more [] sum text = append-nil (text ++ sum_line (sha256 (sum ++ text)))
summed_more (x ∷ xs) sum text =
    let here : List ℕ = x ++ sum_line (sha256 (sum ++ x)) in
    let rest : List ℕ = summed (sha256 (sum ++ x)) xs in
    let more : List ℕ = text ++ sum_line (sha256 (last_sum (sha256 (sum ++ x)) xs ++ text)) in
    ap (λ (l : List ℕ). here ++ l) (summed_more xs (sha256 (sum ++ x)) text) ∙ sym (append_assoc here rest more)

pub last_sum_more : (texts : List (List ℕ)) (sum text : List ℕ) → last_sum sum (texts ++ text ∷ []) ≡ sha256 (last_sum sum texts ++ text)
last_sum_more [] sum text = refl
last_sum_more (x ∷ xs) sum text = last_sum_more xs (sha256 (sum ++ x)) text

pub all_more : (commits : List (List (List ℕ))) (one : List (List ℕ)) → all_of (commits ++ one ∷ []) ++ [] ≡ all_of commits ++ one
all_more [] one = append-nil (one ++ []) ∙ append-nil one
all_more (c ∷ cs) one =
    append_assoc c (all_of (cs ++ one ∷ [])) [] ∙ ap (λ (l : List (List ℕ)). c ++ l) (all_more cs one)
    ∙ sym (append_assoc c (all_of cs) one)

pub no_lines : (ls : List (List ℕ)) → lines ls ≡ [] → ls ≡ []
no_lines [] is = refl
no_lines ([] ∷ ls) is = absurd (cc is)
no_lines ((b ∷ bs) ∷ ls) is = absurd (cc is)

-- what a commit writes: nothing, or the lines that wait and their sum
pub record WritesNothing (sum pending : List ℕ) : Type 0 where
  pub none : pending ≡ []
  pub text : commit_text sum pending ≡ []
  pub same : sum_after_commit sum pending ≡ sum

pub record WritesLines (sum pending : List ℕ) : Type 0 where
  pub text : commit_text sum pending ≡ pending ++ sum_line (sha256 (sum ++ pending))
  pub next : sum_after_commit sum pending ≡ sha256 (sum ++ pending)

pub writes : (sum pending : List ℕ) → WritesNothing sum pending ⊎ WritesLines sum pending
writes sum [] = inl (record { none = refl; text = refl; same = refl })
writes sum (b ∷ bs) = inr (record { text = refl; next = refl })
