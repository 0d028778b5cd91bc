-- One packet more of a stretch is one packet less of a bucket's credit.
use Rattle.std.proofs.Common.{refl, ◌≡◌, ◌≤◌, ℕ, ◌+◌, ◌-◌, ◌*◌, List, [], ◌∷◌, ◌++◌, length, arith, ap, ◌∙◌, sym, true}
use native.Mathlib.Nat.{mul-add}
use Rattle.std.specs.Prelude.{min, All}
use Rattle.std.specs.List.{AllByRecursion}
use Rattle.std.proofs.lemmas.List.Elements.{All-nil, All-cons, All-tail}
use Rattle.std.proofs.lemmas.List.{length-append}
use Rattle.std.proofs.lemmas.Bool.{le-leb}
use Rattle.rate_bucket.specs.Bucket.{Stretch, packet, full_bucket, gained, windows_left, credit_at, is_admitted}
use Rattle.rate_bucket.specs.Running.{Level, IsLevelOf, credit_by, with_packet, changed, level_changed, RunningLaws}

-- what flows in up to a clock, and from it on
gained_parts : (r since now later : ℕ) → since ≤ now → now ≤ later
    → gained r since later ≡ gained r since now + gained r now later
gained_parts r since now later before after =
    let parts : later - since ≡ (now - since) + (later - now) = omega arith in
    ap (λ n. r * n) parts ∙ mul-add r (now - since) (later - now)

-- one by one, and by places
by_turns : (n : ℕ) (ats : List ℕ) → All (λ at. at ≤ n) ats → AllByRecursion (λ at. at ≤ n) ats
by_turns n [] all = tt
by_turns n (at ∷ ats) all = (all 0 at (omega arith), by_turns n ats (All-tail (λ x. x ≤ n) at ats all))

by_places : (n : ℕ) (ats : List ℕ) → AllByRecursion (λ at. at ≤ n) ats → All (λ at. at ≤ n) ats
by_places n [] all = All-nil (λ x. x ≤ n)
by_places n (at ∷ ats) all = All-cons (λ x. x ≤ n) at ats all.0 (by_places n ats all.1)

-- a window's packet more
window_more : (B r now later : ℕ) (ats : List ℕ) → AllByRecursion (λ at. at ≤ now) ats → now ≤ later
    → packet ≤ windows_left B r now ats
    → windows_left B r later (ats ++ now ∷ []) ≡ min (full_bucket B) (windows_left B r now ats + gained r now later - packet)
window_more B r now later [] all after room = omega arith
window_more B r now later (at ∷ ats) all after room =
    let rest = window_more B r now later ats all.1 after (omega arith) in
    let parts = gained_parts r at now later all.0 after in
    let longer = length-append ats (now ∷ []) in
    omega (arith, rest, parts, longer)

-- a bucket that has come from a stretch admits what the stretch admits
same_answer : (b : Stretch) (l : Level) (now : ℕ) → IsLevelOf b l → l.clock ≤ now → packet ≤ credit_by l now
    → true ≡ is_admitted b now
same_answer b l now is after room = sym (le-leb _ _ (omega (arith, is.credit now after)))

earlier : (a b : ℕ) (ats : List ℕ) → a ≤ b → AllByRecursion (λ at. at ≤ a) ats → AllByRecursion (λ at. at ≤ b) ats
earlier a b [] after all = tt
earlier a b (at ∷ ats) after all = (omega (arith, all.0), earlier a b ats after all.1)

with_last : (now : ℕ) (ats : List ℕ) → AllByRecursion (λ at. at ≤ now) ats → AllByRecursion (λ at. at ≤ now) (ats ++ now ∷ [])
with_last now [] all = (omega arith, tt)
with_last now (at ∷ ats) all = (all.0, with_last now ats all.1)

-- the same in numbers: what the stretch began with, what flowed in up to now and since, how many packets, the least of
-- its windows, and what a full bucket has
packet_less : (c g0 g n W F : ℕ) → 1000 ≤ min (c + g0 - 1000 * n) W
    → min (c + (g0 + g) - 1000 * (n + 1)) (min F (W + g - 1000)) ≡ min (min (c + g0 - 1000 * n) W - 1000 + g) F
packet_less c g0 g n W F room = omega arith

less_at : (b : Stretch) (now later : ℕ) → b.start ≤ now → AllByRecursion (λ at. at ≤ now) b.admitted → now ≤ later
    → packet ≤ credit_at b now
    → credit_at (with_packet now b) later
    ≡ min (credit_at b now - packet + gained b.per_second now later) (full_bucket b.burst)
less_at b now later begun all behind room =
    let windows = window_more b.burst b.per_second now later b.admitted all behind (omega (arith, room)) in
    let g0 = gained b.per_second b.start now in
    let g = gained b.per_second now later in
    ap (λ x. min (b.credit + x - packet * length (b.admitted ++ now ∷ [])) (windows_left b.burst b.per_second later (b.admitted ++ now ∷ [])))
    (gained_parts b.per_second b.start now later begun behind)
    ∙ ap (λ m. min (b.credit + (g0 + g) - packet * m) (windows_left b.burst b.per_second later (b.admitted ++ now ∷ [])))
    (length-append b.admitted (now ∷ []))
    ∙ ap (λ w. min (b.credit + (g0 + g) - packet * (length b.admitted + 1)) w) windows
    ∙ packet_less b.credit g0 g (length b.admitted) (windows_left b.burst b.per_second now b.admitted) (full_bucket b.burst) room

-- with one packet more it comes to one packet less of credit
pub less_packet : (b : Stretch) (l : Level) (now : ℕ) → IsLevelOf b l → l.clock ≤ now → packet ≤ credit_by l now
    → IsLevelOf (with_packet now b)
    (record { burst = l.burst; per_second = l.per_second; clock = now; credit = credit_by l now - packet })
less_packet b l now is after room =
    let all = earlier l.clock now b.admitted after (by_turns l.clock b.admitted is.admitted) in
    let at_now : credit_at b now ≡ credit_by l now = is.credit now after in
    let begun : b.start ≤ now = omega (arith, is.begun) in
    record {
      burst = is.burst;
      per_second = is.per_second;
      begun = begun;
      admitted = by_places now (b.admitted ++ now ∷ []) (with_last now b.admitted all);
      credit = λ later behind.
          less_at b now later begun all behind (omega (arith, at_now))
          ∙ ap (λ c. min (c - packet + gained b.per_second now later) (full_bucket b.burst)) at_now
          ∙ ap (λ r. min (credit_by l now - packet + gained r now later) (full_bucket b.burst)) is.per_second
          ∙ ap (λ n. min (credit_by l now - packet + gained l.per_second now later) (full_bucket n)) is.burst;
    }

pub admits : (b : Stretch) (l : Level) (now : ℕ) → IsLevelOf b l → l.clock ≤ now → packet ≤ credit_by l now
    → (true ≡ is_admitted b now) × IsLevelOf (with_packet now b)
    (record { burst = l.burst; per_second = l.per_second; clock = now; credit = credit_by l now - packet })
admits b l now is after room = (same_answer b l now is after room, less_packet b l now is after room)

-- ---- the laws

begun_is : (start credit burst per_second : ℕ)
    → IsLevelOf
    (record { start = start; credit = credit; burst = burst; per_second = per_second; admitted = [] })
    (record { burst = burst; per_second = per_second; clock = start; credit = min credit (full_bucket burst) })
begun_is start credit burst per_second =
    record {
      burst = refl;
      per_second = refl;
      begun = omega arith;
      admitted = All-nil (λ at. at ≤ start);
      credit = λ now after. omega arith;
    }

changed_is : (b : Stretch) (l : Level) (burst per_second now : ℕ) → IsLevelOf b l → l.clock ≤ now
    → IsLevelOf (changed burst per_second now b) (level_changed burst per_second now l)
changed_is b l burst per_second now is after =
    record {
      burst = refl;
      per_second = refl;
      begun = omega arith;
      admitted = All-nil (λ at. at ≤ now);
      credit = λ later behind. let same = is.credit now after in omega arith;
    }

pub running_laws : RunningLaws
running_laws = record { begun = begun_is; admitted = less_packet; changed = changed_is }
