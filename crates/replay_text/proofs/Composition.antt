-- What a replay writes, from the parts that it is made of.
use Rattle.std.proofs.Common.{◌≡◌, ◌<◌, ◌≤◌, ◌^◌, ℕ, zero, suc, length, List, [], ◌∷◌, true, Option, Some, None, Result, Ok, Err, refl, inl, inr, ◌⊎◌, sym, ap, subst, ◌∙◌, arith}
use Rattle.std.specs.Prelude.{All, IfSome, IfErr, OnOk, is_some, option_map, slice_index}
use Rattle.std.specs.Io.KnownBytes.{Keeps, Appends}
use Rattle.std.specs.List.{slice_get}
use Rattle.std.specs.Result.{result_err}
use Rattle.std.proofs.lemmas.List.{length-map}
use Rattle.tenant_core.specs.declared.terms.TenantTerms.{TenantTerms}
use Rattle.floor_core.specs.FloorView.{FloorState, HasRoom, world_of}
use Rattle.floor_core.specs.Forwards.{AreForwards, AreTaken, HasBytes, no_frames}
use Rattle.floor_core.specs.World.{Hand, World, AreOutputs, FitsIn, number_of, tenant_at_start, world_at_start}
use Rattle.floor_core.specs.declared.step.Output.{Output}
use Rattle.floor_core.specs.declared.step.Step.{Step}
use Rattle.admin_text.specs.Setup.{setup_of}
use Rattle.admin_text.specs.declared.setup.Setup.{Setup}
use Rattle.replay_text.specs.Replay.{names_in, refusal_of, IsReplayFault, IsReplayed, IsReplayedFor, LeavesWritten, LeavesWrittenFor, WritesAll, WritesFront, world_of_setup}
use Rattle.replay_text.specs.Streams.{AppendsFront}
use Rattle.replay_text.specs.Script.{lines_of, meaning_of, steps_of_script}
use Rattle.replay_text.specs.declared.script.Meaning.TheVariants.{Runs}
use Rattle.replay_text.specs.declared.replays.ReplayFault.{ReplayFault}
use Rattle.replay_text.specs.declared.replays.ReplayFault.TheVariants as fault
use Rattle.replay_text.specs.declared.script.ScriptFault.{ScriptFault}
use Rattle.replay_text.specs.declared.script.TheConstants.{MAX_SCRIPT}
use Rattle.replay_text.proofs.Fits.{step_of_line_good, steps_have, too_long}
use Rattle.replay_text.proofs.Scripts.{script_steps}

-- no call has a number yet
first_call : (start t : ℕ) (o : Option TenantTerms) → (tenant_at_start start t o).next_call ≡ 0
first_call start t None = refl
first_call start t (Some terms) = refl

-- a new floor has numbers left for as many calls as a list has steps
pub has_room : (setups : List TenantTerms) (start steps : ℕ) (f : FloorState) → world_of f ≡ world_at_start setups start → steps ≤ 2 ^ 63 → HasRoom f steps
has_room setups start steps f new few = λ t within.
    let none : slice_index f.next_calls t ≡ 0 = ap (λ (w : World). (w.tenants t).next_call) new ∙ first_call start t (slice_get setups t) in
    omega (arith, none)

-- what floors promise of the frames that go on
abbrev pub SendsOn : Type 0
SendsOn = (world : World) (frames : ℕ → List ℕ) (workers tenants : ℕ) (steps : List Step) (outputs : List Output)
    → AreTaken tenants world frames → All (FitsIn workers tenants) steps → All HasBytes steps
    → AreOutputs world steps outputs → AreForwards frames steps outputs

slice_get_is : {A : Type 0} (xs : List A) (k : ℕ) → k < length xs → is_some (slice_get xs k) ≡ true
slice_get_is [] k lt = absurd (omega arith)
slice_get_is (x ∷ xs) zero lt = refl
slice_get_is (x ∷ xs) (suc k) lt = slice_get_is xs k (omega arith)

-- a tenant stands at its number
numbered_at : (start t : ℕ) (o : Option TenantTerms) → is_some o ≡ true → number_of (tenant_at_start start t o) ≡ t
numbered_at start t None e = absurd cc
numbered_at start t (Some terms) e = refl

-- no worker has anything in hand
none_in_hand : (t call : ℕ) → Hand.Free ≡ Hand.Has t call → ⊥
none_in_hand t call e = cc

-- so it is of the steps of a script
pub sends_on : SendsOn → (setup : Setup) (workers : ℕ) (script : List ℕ) (steps : List Step) (outputs : List Output)
    → steps_of_script (names_in setup) workers script ≡ Ok steps → AreOutputs (world_of_setup setup) steps outputs → AreForwards no_frames steps outputs
sends_on law setup workers script steps outputs parsed are =
    let names = names_in setup in
    let as_many : length names ≡ length setup.tenants = length-map setup.tenants (λ (t : TenantTerms). t.name) in
    let have : (P : Step → Type 0) → ((line : List ℕ) (step : Step) → meaning_of names workers line ≡ Runs step → P step) → All P steps
    = λ P one. subst (All P) (sym (script_steps names workers script steps parsed)) (steps_have P names workers one (lines_of script)) in
    let taken : AreTaken (length names) (world_of_setup setup) no_frames = record {
      numbered = λ t lt. numbered_at setup.start t (slice_get setup.tenants t) (slice_get_is setup.tenants t (omega (arith, as_many)));
      each = λ w t call e. absurd (none_in_hand t call e);
    } in
    law (world_of_setup setup) no_frames workers (length names) steps outputs taken
    (have (FitsIn workers (length names)) (λ line step e. (step_of_line_good names workers line step e).0))
    (have HasBytes (λ line step e. (step_of_line_good names workers line step e).1)) are

pub replayed_by : SendsOn → (known : Option (List ℕ)) (setup_text : List ℕ) (workers : ℕ) (setup : Setup) (text : List ℕ)
    → setup_of setup_text ≡ Ok setup → IfSome known (λ script. IsReplayedFor setup workers script text)
    → IfSome known (λ script. IsReplayed setup_text workers script text)
replayed_by law None setup_text workers setup text read replayed = tt
replayed_by law (Some script) setup_text workers setup text read replayed =
    record {
      setup = setup;
      steps = replayed.0;
      outputs = replayed.2.0;
      setup_is = read;
      steps_are = replayed.1;
      outputs_are = replayed.2.1;
      forwards_are = sends_on law setup workers script replayed.0 replayed.2.0 replayed.1 replayed.2.1;
      written_is = replayed.2.2;
    }

-- what was written for a setup that was read is what its text says
pub written_as_read : {A : Type 0} → SendsOn → (setup_text : List ℕ) (workers : ℕ) (setup : Setup) (result : Result A ReplayFault) (known old new : Option (List ℕ))
    → setup_of setup_text ≡ Ok setup
    → OnOk result (IfSome known (λ script. (text : List ℕ) × IsReplayedFor setup workers script text × Appends old new text))
    → OnOk result (IfSome known (λ script. WritesAll setup_text workers script old new))
written_as_read law setup_text workers setup (Ok done) None old new read written = tt
written_as_read law setup_text workers setup (Ok done) (Some script) old new read written =
    (written.0, replayed_by law (Some script) setup_text workers setup written.0 read written.1, written.2)
written_as_read law setup_text workers setup (Err f) known old new read written = tt

front_as_read : SendsOn → (setup_text : List ℕ) (workers : ℕ) (setup : Setup) (known old new : Option (List ℕ)) → setup_of setup_text ≡ Ok setup
    → Keeps old new ⊎ IfSome known (λ script. (text : List ℕ) × IsReplayedFor setup workers script text × AppendsFront text old new)
    → Keeps old new ⊎ IfSome known (λ script. WritesFront setup_text workers script old new)
front_as_read law setup_text workers setup known old new read (inl keeps) = inl keeps
front_as_read law setup_text workers setup None old new read (inr front) = inr tt
front_as_read law setup_text workers setup (Some script) old new read (inr front) =
    inr (front.0, replayed_by law (Some script) setup_text workers setup front.0 read front.1, front.2)

-- and so is what was left after a fault
pub left_as_read : {A : Type 0} → SendsOn → (setup_text : List ℕ) (workers : ℕ) (setup : Setup) (result : Result A ReplayFault) (known old new : Option (List ℕ))
    → setup_of setup_text ≡ Ok setup → IfErr result (λ fault. LeavesWrittenFor fault setup workers known old new)
    → IfErr result (λ fault. LeavesWritten fault setup_text workers known old new)
left_as_read law setup_text workers setup (Ok done) known old new read left = tt
left_as_read law setup_text workers setup (Err (fault.Setup f)) known old new read left = left
left_as_read law setup_text workers setup (Err (fault.Script f)) known old new read left = left
left_as_read law setup_text workers setup (Err fault.Memory) known old new read left = front_as_read law setup_text workers setup known old new read left
left_as_read law setup_text workers setup (Err fault.Device) known old new read left = front_as_read law setup_text workers setup known old new read left

-- a setup and a script that are replayed have no fault
pub replayed_not_refused : (known : Option (List ℕ)) (setup_text : List ℕ) (workers : ℕ) (text : List ℕ) → IfSome known (λ script. IsReplayed setup_text workers script text)
    → IfSome known (λ script. refusal_of (setup_of setup_text) workers script ≡ None)
replayed_not_refused None setup_text workers text is = tt
replayed_not_refused (Some script) setup_text workers text is = rw (is.setup_is, is.steps_are) refl

-- what a setup that was read is refused by, the text of that setup is
pub refused_as_read : {A : Type 0} (setup_text : List ℕ) (workers : ℕ) (setup : Setup) (result : Result A ReplayFault) (known : Option (List ℕ))
    → setup_of setup_text ≡ Ok setup → IfErr result (λ fault. IsReplayFault fault (Ok setup) workers known) → IfErr result (λ fault. IsReplayFault fault (setup_of setup_text) workers known)
refused_as_read setup_text workers setup result known read refused = rw read refused

-- a script that is too long is refused for that
pub long_refused : (setup : Setup) (workers : ℕ) (known : Option (List ℕ)) → IfSome known (λ script. MAX_SCRIPT < length script)
    → IfSome known (λ script. refusal_of (Ok setup) workers script ≡ Some (fault.Script ScriptFault.Size))
long_refused setup workers None h = tt
long_refused setup workers (Some script) h =
    ap (λ (r : Result (List Step) ScriptFault). option_map (λ f. fault.Script f) (result_err r)) (too_long (names_in setup) workers (Some script) h)
