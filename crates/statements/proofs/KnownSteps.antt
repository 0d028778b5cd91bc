-- Lists that are told alike.
use Rattle.std.proofs.Common.{◌≡◌, ℕ, ◌<◌, ◌≤◌, List, [], ◌∷◌, length, map, drop, refl, sym, ap, ◌∙◌}
use Rattle.std.specs.Prelude.{Some, None, option_map, get_or}
use Rattle.std.specs.List.{slice_get}
use Rattle.std.proofs.lemmas.List.{drop_all}
use Rattle.std.proofs.lemmas.Option.{slice_get-map, slice_get_read}
use Rattle.statements.specs.Known.{number_in_next}
use Rattle.tenant_core.specs.declared.peer.Peer.{Peer}

one_of : {B : Type 0} (x y : B) → Some x ≡ Some y → x ≡ y
one_of x y same = cc

-- what is told of two lists alike is told alike at each place
pub alike_at : {A B : Type 0} (f : A → B) (xs ys : List A) (k : ℕ) (x y : A) → map f xs ≡ map f ys → k < length xs → k < length ys
    → x ≡ get_or xs k x → y ≡ get_or ys k y → f x ≡ f y
alike_at f xs ys k x y same inside within at there =
    let one : option_map f (slice_get xs k) ≡ Some (f x) = ap (option_map f) (slice_get_read xs (length xs) k x refl inside at) in
    let two : option_map f (slice_get ys k) ≡ Some (f y) = ap (option_map f) (slice_get_read ys (length ys) k y refl within there) in
    one_of (f x) (f y)
    (sym one ∙ (sym (slice_get-map f xs k) ∙ (ap (λ zs. slice_get zs k) same ∙ (slice_get-map f ys k ∙ two))))

anew_none : (ps : List Peer) (n : ℕ) → number_in_next ps [] n ≡ None
anew_none [] n = refl
anew_none (p ∷ ps) n = refl

-- nobody has a number at a place where there is nobody
pub anew_past : (ps qs : List Peer) (k n : ℕ) → length qs ≤ k → number_in_next (drop k ps) (drop k qs) n ≡ None
anew_past ps qs k n past = ap (λ (rest : List Peer). number_in_next (drop k ps) rest n) (drop_all k qs past) ∙ anew_none (drop k ps) n

-- what is told of one list is the other one, so it is at each place
pub told_at : {A : Type 0} (f : A → A) (xs ys : List A) (k : ℕ) (x y : A) → map f xs ≡ ys → k < length xs → k < length ys
    → x ≡ get_or xs k x → y ≡ get_or ys k y → f x ≡ y
told_at f xs ys k x y same inside within at there =
    let one : option_map f (slice_get xs k) ≡ Some (f x) = ap (option_map f) (slice_get_read xs (length xs) k x refl inside at) in
    let two : slice_get ys k ≡ Some y = slice_get_read ys (length ys) k y refl within there in
    one_of (f x) y (sym one ∙ (sym (slice_get-map f xs k) ∙ (ap (λ zs. slice_get zs k) same ∙ two)))
