-- Facts of results and tests, by cases.
use Rattle.std.proofs.Common.{◌≡◌, ◌⊎◌, Bool, true, false, cond, Result, Ok, Err, IfOk, IsOkAnd, refl, inl, inr}
use Rattle.common_types.specs.ResultChain.{◌>>=◌}
use Rattle.common_types.specs.Outcomes.{Gives}

-- which way a test went
pub chosen : {A : Type 0} (b : Bool) (x y z : A) → cond b x y ≡ z → ((b ≡ true) × (x ≡ z)) ⊎ ((b ≡ false) × (y ≡ z))
chosen true x y z h = inl (refl, h)
chosen false x y z h = inr (refl, h)

-- a fact of each value that a result may hold
pub if_ok_by : {A E : Type 0} (r : Result A E) (P : A → Type 0) → ((x : A) → r ≡ Ok x → P x) → IfOk r P
if_ok_by (Ok x) P h = h x refl
if_ok_by (Err e) P h = tt

-- the same of a value that is seen by a view
pub if_ok_seen : {X Y E : Type 0} (view : X → Y) (r : Result X E) (read : Result Y E) (P : X → Type 0) → Gives view r read → ((x : X) → read ≡ Ok (view x) → P x) → IfOk r P
if_ok_seen view (Ok x) read P given h = h x given
if_ok_seen view (Err e) read P given h = tt

-- the value of a step that did not fail
pub bind_ok : {A B E : Type 0} (r : Result A E) (f : A → Result B E) (y : B) → (r >>= f) ≡ Ok y → (x : A) × (r ≡ Ok x) × (f x ≡ Ok y)
bind_ok (Ok x) f y e = (x, refl, e)
bind_ok (Err d) f y e = absurd cc

-- a test that did not fail
pub guard_ok : {A E : Type 0} (b : Bool) (d : E) (x y : A) → cond b (Err d) (Ok x) ≡ Ok y → (b ≡ false) × (x ≡ y)
guard_ok true d x y e = absurd cc
guard_ok false d x y e = (refl, cc)

-- what was read is what the function returned
pub ok_and_seen : {X Y E : Type 0} (view : X → Y) (r : Result X E) (read : Result Y E) (y : Y) (P : X → Type 0) → Gives view r read → read ≡ Ok y → ((x : X) → view x ≡ y → P x) → IsOkAnd r P
ok_and_seen view (Ok x) read y P given e h = h x cc
ok_and_seen view (Err d) read y P given e h = absurd cc
