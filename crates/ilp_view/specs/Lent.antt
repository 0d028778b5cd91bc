-- What a Prepare that is read in place lends, and what its frame ends as.
use Rattle.std.specs.Prelude.{ℕ, List, [], ◌≤◌, ◌+◌, ◌++◌, length, take, drop, Result, Ok}
use Rattle.std.specs.Borrow.{Array, Fml, GName, LendsBoth, MutBor, u8}
use Rattle.std.specs.Int.{w64, to_be_bytes}
use Rattle.common_types.specs.ResultChain.{◌>>=◌}
use Rattle.ilp_view.specs.declared.fault.ViewFault.{ViewFault}
use Rattle.ilp_view.specs.declared.prepare_mut.PrepareMut.{PrepareMut}
use Rattle.ilp_view.specs.contracts.prepare_mut.PrepareMut.{the_row}
use Rattle.ilp_view.specs.Packet.{Prepare, before_amount, behind_expiry}
use Rattle.ilp_view.specs.Reading.{prepare_at}
use mir.Syntax.{named}

-- A frame in four: the bytes before the amount, those of the amount, those of the expiry, and the rest.
pub record Cut : Type 0 where
  pub front : List ℕ
  pub amount : List ℕ
  pub expiry : List ℕ
  pub back : List ℕ

-- How a Prepare is cut (RFC 0027, "ILP Prepare").
abbrev pub cut_of : Prepare → Cut
cut_of p = record {
  front = before_amount p;
  amount = to_be_bytes w64 p.amount;
  expiry = p.expiry;
  back = behind_expiry p;
}

-- How the frame's Prepare is cut, or the first fault.
abbrev pub cut_at : List ℕ → Result Cut ViewFault
cut_at frame = do
  p ← prepare_at frame
  Ok (cut_of p)

-- The ghost name of the frame's reference. Two references of one name end with the same bytes.
abbrev pub name_of : PrepareMut → GName
name_of m = m.frame.ghost_name

-- The frame as it is now.
abbrev pub frame_of : PrepareMut → List ℕ
frame_of m = m.frame.now

-- The frame as it is now, cut at the amount and the expiry.
abbrev pub lent_of : PrepareMut → Cut
lent_of m = record {
  front = take m.place m.frame.now;
  amount = take 8 (drop m.place m.frame.now);
  expiry = take 17 (drop (m.place + 8) m.frame.now);
  back = drop (m.place + 25) m.frame.now;
}

-- The amount and the expiry lie within the frame.
abbrev pub HasFields : PrepareMut → Type 0
HasFields m = m.place + 25 ≤ length m.frame.now

-- With other bytes for the amount and the expiry, and the same before and after them.
abbrev pub with_fields : PrepareMut → List ℕ → List ℕ → PrepareMut
with_fields m amount expiry = record m {
  frame = record m.frame { now = (lent_of m).front ++ (amount ++ (expiry ++ (lent_of m).back)) };
}

-- Whatever is written into the two ranges, the frame ends with that in their places.
abbrev pub LendsFields : MutBor PrepareMut → MutBor (List ℕ) × MutBor (List ℕ) → Fml
LendsFields m ranges =
    LendsBoth (the_row (record { mir = named 1; lft = [] })) (Array u8 0) (Array u8 0) m ranges (with_fields m.now)
