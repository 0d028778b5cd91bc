-- Bytes that are held in a room.
use Rattle.std.proofs.Common.{◌≡◌, ◌<◌, ◌≤◌, ◌+◌, ◌-◌, ◌++◌, nat_lt, ltb-true, ltb-false, List, [], ℕ, length, take, drop, Option, Some, sym, ap, subst, ◌∙◌, arith, length-take, length-drop, take-take}
use lib.Seq.{paste}
use Rattle.std.proofs.Math.Seq.{drop-append-add, take-append-add}
use Rattle.std.proofs.lemmas.List.{drop-take}
use Rattle.std.proofs.lemmas.List.Edits.{take-paste}
use Rattle.http_link.specs.declared.held.Held.{Held}
use Rattle.http_link.specs.Running.{held_in}
use Rattle.http_link.specs.Connections.{Awaits}
use Rattle.http_link.specs.Streams.{FillsOn, ReadsBehind}
use Rattle.http_link.specs.Bodies.{IsSized}
use Rattle.http_link.specs.BodyReading.{ReadsAs}
use Rattle.http_link.specs.declared.bodies.BodyRead.TheVariants.{Cut, Whole}
use Rattle.http_link.proofs.Takes.{none_held}
use Rattle.http_link.proofs.Heads.{nothing_left}

-- what is held from the front on
pub held_front : (room : List ℕ) (h : Held) → h.from ≡ 0 → held_in room h ≡ take h.to room
held_front room h zero = ap (λ n. drop n (take h.to room)) zero

-- nothing of a front is left behind all of it
pub all_used : (room : List ℕ) (n : ℕ) → n ≤ length room → drop n (take n room) ≡ []
all_used room n le = nothing_left (drop n (take n room)) (omega (arith, length-drop n (take n room), length-take n room))

-- what lies behind a front, of a longer front
pub behind_front : (room : List ℕ) (n to : ℕ) → n ≤ to → take (to - n) (drop n room) ≡ drop n (take to room)
behind_front room n to le = sym (drop-take n (to - n) room) ∙ ap (λ k. drop n (take k room)) (omega arith)

-- and of the back that was split off
pub left_in_back : (room back : List ℕ) (n to : ℕ) → n ≤ to → back ≡ drop n room → take (to - n) back ≡ drop n (take to room)
left_in_back room back n to le is = ap (take (to - n)) is ∙ behind_front room n to le

-- what is held, moved to the front
pub moved_front : (room after : List ℕ) (h : Held) → h.from ≤ h.to → h.to ≤ length room → after ≡ paste room 0 (drop h.from room) (h.to - h.from)
    → take (h.to - h.from) after ≡ held_in room h
moved_front room after h ordered within is =
    let size = h.to - h.from in
    let plain : size ≡ 0 + size = omega arith in
    ap (take size) is ∙ ap (λ k. take k (paste room 0 (drop h.from room) size)) plain ∙ take-paste room 0 (drop h.from room) size (omega arith) (omega (arith, length-drop h.from room))
    ∙ behind_front room h.from h.to ordered

-- what is held behind a text
pub held_behind : (text rest : List ℕ) (len from to : ℕ) → length text ≡ len
    → drop (len + from) (take (len + to) (text ++ rest)) ≡ drop from (take to rest)
held_behind text rest len from to long =
    ap (λ n. drop (n + from) (take (n + to) (text ++ rest))) (sym long)
    ∙ ap (drop (length text + from)) (take-append-add text rest to) ∙ drop-append-add text (take to rest) from

-- what came where nothing was held
pub first_came : (old new : Option (List ℕ)) (before after : List ℕ) (h : Held) (limit n : ℕ) → h.to ≤ h.from
    → limit ≤ length after → ReadsBehind old new 0 limit before after (Some n) → Awaits (held_in before h) old new (take n after) (nat_lt 0 n)
first_came old new before after h limit n none within read =
    let nothing = none_held before h none in
    let bound = read.0 in
    let plain : n ≡ 0 + n = omega arith in
    let taken : take n after ≡ read.2.0 = ap (λ k. take k after) plain ∙ read.2.1 in
    let long : length (take n after) ≡ n = omega (arith, length-take n after) in
    record {
      came = read.2.0;
      grew = taken ∙ ap (λ (w : List ℕ). w ++ read.2.0) (sym nothing);
      taken = read.2.2;
      some = λ more. let lt = ltb-true 0 n more in omega arith;
      ended = λ over. let le = ltb-false 0 n over in (nothing_left (take n after) (omega arith), read.1 (omega arith));
    }

-- all that stands in a room, once what was held there was filled on
filled_all : (old new : Option (List ℕ)) (had front : List ℕ) (wanted n : ℕ) (buffer : List ℕ) → front ≡ had → (fills : FillsOn old new front wanted buffer n)
    → had ++ fills.came ≡ take n buffer
filled_all old new had front wanted n buffer same fills = ap (λ (w : List ℕ). w ++ fills.came) (sym same) ∙ sym fills.grew

-- a body of a stated length that was read, or is cut
pub sized_whole : (old new : Option (List ℕ)) (had front room : List ℕ) (now : Held) (size there : ℕ) → front ≡ had → FillsOn old new front size room there
    → size ≤ there → now ≡ record { from = size; to = there } → ReadsAs had old new (held_in room now) room (IsSized size) (Whole size)
sized_whole old new had front room now size there moved fills ge same =
    let all : had ++ fills.came ≡ take there room = filled_all old new had front size there room moved fills in
    let bound = fills.bound in
    record {
      came = fills.came;
      consumed = fills.taken;
      so = (
        subst (λ (w : List ℕ). size ≤ length w) (sym all) (omega (arith, length-take there room)),
        sym (ap (take size) all ∙ take-take size there room (omega arith)),
        ap (held_in room) same ∙ sym (ap (drop size) all),
      );
      ended = λ e. absurd (apart e);
    }
  where
    apart : Whole size ≡ Cut → ⊥
    apart e = absurd cc

pub sized_cut : (old new : Option (List ℕ)) (had front room : List ℕ) (now : Held) (size there : ℕ) → front ≡ had → FillsOn old new front size room there
    → there < size → now.to ≤ now.from → ReadsAs had old new (held_in room now) room (IsSized size) Cut
sized_cut old new had front room now size there moved fills lt none =
    let all : had ++ fills.came ≡ take there room = filled_all old new had front size there room moved fills in
    let bound = fills.bound in
    record {
      came = fills.came;
      consumed = fills.taken;
      so = subst (λ (w : List ℕ). length w < size) (sym all) (omega (arith, length-take there room));
      ended = λ e. (none_held room now none, fills.ended lt);
    }
