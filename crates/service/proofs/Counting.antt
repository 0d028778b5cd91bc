-- What who answers operators counts, beside the workers.
use Rattle.std.proofs.Common.{◌≡◌, ℕ, ◌+◌, Bool, true, false, List, [], ◌∷◌, ◌++◌, length, map, Option, Some, None, refl, sym, ap, subst, ◌∙◌, arith}
use Rattle.std.specs.Prelude.{IfSome, is_some, option_map}
use Rattle.std.specs.List.{sum_by}
use Rattle.std.specs.Option.{option_to_list}
use Rattle.std.proofs.lemmas.List.Sums.{sum_by-cons}
use Rattle.one_list.specs.declared.run.Run.{Ghosts}
use Rattle.service.specs.Answering.{IsNewDesk}
use Rattle.service.specs.Counted.{without_door}
use Rattle.service.specs.Extents.{desk_count, worker_count}
use Rattle.service.specs.Operating.{HasObeyed, HaveOperated}
use Rattle.service.specs.declared.worker.desk.Desk.{Desk}
use Rattle.service.specs.declared.office.Office.{Office}
use Rattle.service.proofs.Sums.{map_map, sum_by_map}

pub some_map : {A B : Type 0} (f : A → B) (o : Option A) → is_some (option_map f o) ≡ is_some o
some_map f None = refl
some_map f (Some a) = refl

pub if_map : {A B : Type 0} (f : A → B) (P : B → Type 0) (o : Option A) → IfSome o (λ a. P (f a)) → IfSome (option_map f o) P
if_map f P None so = tt
if_map f P (Some a) so = so

pub if_both : {A : Type 0} (P Q : A → Type 0) (o : Option A) → IfSome o P → IfSome o Q → IfSome o (λ a. P a × Q a)
if_both P Q None p q = tt
if_both P Q (Some a) p q = (p, q)

pub as_many : {A B : Type 0} (a : Option A) (b : Option B) → is_some a ≡ is_some b → length (option_to_list a) ≡ length (option_to_list b)
as_many None None same = refl
as_many None (Some b) same = absurd cc
as_many (Some a) None same = absurd cc
as_many (Some a) (Some b) same = refl

-- ---- the desk of who answers operators

module _ {J : Type 0} {r : Ghosts J} (Gives : ℕ → Type 0) (office : Office J r) where
  pub operated_some : (before after : Option (Desk J r)) → HaveOperated Gives office before after → is_some after ≡ is_some before
  operated_some None after operated = ap is_some operated
  operated_some (Some desk) after operated = ap is_some operated.1

  pub operated_obeyed : (before after : Option (Desk J r)) → HaveOperated Gives office before after → IfSome before IsNewDesk
      → IfSome after (HasObeyed Gives office)
  operated_obeyed None after operated new = subst (λ o. IfSome o (HasObeyed Gives office)) (sym operated) tt
  operated_obeyed (Some desk) after operated new =
      subst (λ o. IfSome o (HasObeyed Gives office)) (sym operated.1) (record { new = desk; is_new = new; operated = operated.2 })

-- ---- shares and counts

-- so many shares are left for the workers
pub door_apart : {A : Type 0} (o : Option A) (operated : Bool) (all left : ℕ) → is_some o ≡ operated → all ≡ left + length (option_to_list o) → left ≡ without_door operated all
door_apart None operated all left is many = subst (λ b. left ≡ without_door b all) is (omega (arith, many))
door_apart (Some a) operated all left is many = subst (λ b. left ≡ without_door b all) is (omega (arith, many))

pub door_counted : (connections : ℕ) (operated : Bool) → without_door operated (desk_count connections operated) ≡ worker_count connections operated
door_counted connections false = refl
door_counted connections true = omega arith

module _ {P L D : Type 0} (desk : P → D) (lane : L → D) (o : Option P) (lanes : List L) where
  pub shares_told : {S : Type 0} (share : D → S) (others all : List S) → others ≡ map (λ p. share (desk p)) (option_to_list o)
      → all ≡ others ++ map (λ l. share (lane l)) lanes → map share (option_to_list (option_map desk o) ++ map lane lanes) ≡ all
  shares_told {S} share others all first both = by o first
    where
      by : (o : Option P) → others ≡ map (λ p. share (desk p)) (option_to_list o) → map share (option_to_list (option_map desk o) ++ map lane lanes) ≡ all
      by None none = map_map share lane lanes ∙ sym (both ∙ ap (λ (xs : List S). xs ++ map (λ l. share (lane l)) lanes) none)
      by (Some p) one =
          ap (λ (xs : List S). share (desk p) ∷ xs) (map_map share lane lanes) ∙ sym (both ∙ ap (λ (xs : List S). xs ++ map (λ l. share (lane l)) lanes) one)

  pub sums_told : (count : D → ℕ) (before others all : ℕ) → before ≡ 0 → others ≡ before + sum_by (λ p. count (desk p)) (option_to_list o)
      → all ≡ others + sum_by (λ l. count (lane l)) lanes → all ≡ sum_by count (option_to_list (option_map desk o) ++ map lane lanes)
  sums_told count before others all zero first both = by o first
    where
      by : (o : Option P) → others ≡ before + sum_by (λ p. count (desk p)) (option_to_list o) → all ≡ sum_by count (option_to_list (option_map desk o) ++ map lane lanes)
      by None none = let desks = sum_by_map count lane lanes in omega (arith, zero, none, both, desks)
      by (Some p) one =
          let desks = sum_by_map count lane lanes in
          let first : others ≡ before + (count (desk p) + 0) = one ∙ ap (λ n. before + n) (sum_by-cons (λ p. count (desk p)) p []) in
          let both_are : sum_by count (desk p ∷ map lane lanes) ≡ count (desk p) + sum_by count (map lane lanes) = sum_by-cons count (desk p) (map lane lanes) in
          omega (arith, zero, first, both, desks, both_are)
