-- A script that is run as it is read.
use Rattle.std.proofs.Common.{◌≡◌, ◌+◌, ◌≤◌, ◌<◌, ℕ, List, [], ◌∷◌, ◌++◌, length, length-append, Option, Some, None, Ok, Err, refl, sym, ap, subst, ◌∙◌, append-nil, append_assoc, arith}
use Rattle.std.specs.Prelude.{IfSome}
use Rattle.std.specs.Io.KnownBytes.{IsAtEnd}
use Rattle.std.proofs.KnownBytes.{Consumes-all, Consumes-nil, Consumes-trans}
use Rattle.floor_core.specs.FloorView.{FloorState, HasRoom, world_of}
use Rattle.floor_core.specs.declared.step.Step.{Step}
use Rattle.replay_text.specs.Closed.{Closes, Taking}
use Rattle.replay_text.specs.Replay.{Prints}
use Rattle.common_types.specs.declared.read_error.ReadError.TheVariants.{Fault}
use Rattle.replay_text.specs.Script.{lines_of, meaning_of, steps_from, steps_in, steps_of_script, IsBad}
use Rattle.replay_text.specs.SoFar.{AreSoFar, IsBegun, IsReadGood, IsReadWhole, RunsOn, RunsTo}
use Rattle.replay_text.specs.Streams.{ConsumesAtMost, TakesBehind}
use Rattle.replay_text.specs.declared.script.ScriptFault.{ScriptFault}
use Rattle.replay_text.specs.declared.script.TheConstants.{MAX_SCRIPT}
use Rattle.replay_text.proofs.Fronts.{not_bad, nothing_read, passes}
use Rattle.replay_text.proofs.Pieces.{Laws, line_so_far, none_so_far, room_for_fewer}
use Rattle.replay_text.proofs.Scripts.{rest_fails, rest_is_good, steps_of_whole}
use Rattle.replay_text.proofs.Takings.{line_taken, none_taken}

-- ---- lines of a part

-- no line was run
pub on_none : {K : Type 0} (Takes : Taking K) (names : List (List ℕ)) (workers : ℕ) (part : List ℕ) (number : ℕ) (f : FloorState) (text : List ℕ) (k : K) → RunsOn Takes names workers part part number number f f text text k k
on_none Takes names workers part number f text k = λ script more start j run. run

-- nothing more was done
pub on_same : {K : Type 0} (Takes : Taking K) (names : List (List ℕ)) (workers : ℕ) (part rest : List ℕ) (first number : ℕ) (f g h : FloorState) (text longer same : List ℕ) (k l m : K)
    → RunsOn Takes names workers part rest first number f g text longer k l → h ≡ g → same ≡ longer → m ≡ l → RunsOn Takes names workers part rest first number f h text same k m
on_same Takes names workers part rest first number f g h text longer same k l m on floor_same text_same keeper_same =
    subst (λ (x : FloorState). RunsOn Takes names workers part rest first number f x text same k m) (sym floor_same)
    (subst (λ t. RunsOn Takes names workers part rest first number f g text t k m) (sym text_same)
    (subst (λ x. RunsOn Takes names workers part rest first number f g text longer k x) (sym keeper_same) on))

-- one more line was
pub on_line : {K : Type 0} → Laws → (Takes : Taking K) (names : List (List ℕ)) (workers : ℕ) (part rest line after : List ℕ) (first number : ℕ) (f g h : FloorState) (text longer longest : List ℕ) (k l m : K)
    → ((more : List ℕ) → lines_of (rest ++ more) ≡ line ∷ lines_of (after ++ more)) → length after < length rest
    → RunsOn Takes names workers part rest first number f g text longer k l
    → Prints names (steps_in names workers (line ∷ [])) (world_of g) (world_of h) longer longest → ¬ (IsBad names workers line)
    → Closes Takes (steps_in names workers (line ∷ [])) (world_of g) (world_of h) l m
    → length h.seats ≡ length g.seats → length h.books ≡ length g.books → ((n : ℕ) → HasRoom g (1 + n) → HasRoom h n)
    → RunsOn Takes names workers part after first (number + 1) f h text longest k m
on_line laws Takes names workers part rest line after first number f g h text longer longest k l m lines shorter on printed good closed workers_same tenants_same room = λ script more start j run.
    let so_far = on script more start j run in
    let now = so_far.0 in
    let behind = after ++ more in (
      record {
        printed = line_so_far laws names workers (steps_in names workers (lines_of script)) (rest ++ more) line behind (world_of start) (world_of g) (world_of h) longer longest (lines more) now.printed printed;
        taken = line_taken laws Takes names workers (steps_in names workers (lines_of script)) (rest ++ more) line behind (world_of start) (world_of g) (world_of h) j l m (lines more) now.taken closed;
        workers_are = workers_same ∙ now.workers_are;
        tenants_are = tenants_same ∙ now.tenants_are;
        room = room (length behind) (room_for_fewer g (1 + length behind) (length (rest ++ more)) (omega (arith, shorter, length-append after more, length-append rest more)) now.room);
      },
      passes so_far.1.0 names workers number (rest ++ more) line behind _ (lines more) (not_bad (meaning_of names workers line) good) so_far.1.1,
    )

-- ---- parts of a script

-- nothing was read
pub begun_not : {K : Type 0} → Laws → (Takes : Taking K) (names : List (List ℕ)) (workers : ℕ) (old : Option (List ℕ)) (number : ℕ) (rest : List ℕ) (f : FloorState) (text : List ℕ) (k : K) → rest ≡ [] → number ≡ 1 → text ≡ []
    → length f.seats ≡ workers → length f.books ≡ length names → HasRoom f (MAX_SCRIPT + 1) → IsBegun Takes names workers old old 0 number rest f f text k k
begun_not laws Takes names workers old number rest f text k none first empty as_many tenants room = record {
  front = [];
  consumed = Consumes-nil old;
  counted = refl;
  goes_on = λ more few.
      let steps : List Step = steps_in names workers (lines_of more) in
      subst (λ n. RunsTo Takes names workers more n (rest ++ more) f f text k k) (sym first) (subst (λ r. RunsTo Takes names workers more 1 (r ++ more) f f text k k) (sym none) (
        record {
          printed = subst (AreSoFar names (world_of f) (world_of f) steps steps) (sym empty) (none_so_far laws names (world_of f) steps);
          taken = none_taken laws Takes (world_of f) steps k;
          workers_are = as_many;
          tenants_are = tenants;
          room = room_for_fewer f (length more) (MAX_SCRIPT + 1) (omega (arith, few)) room;
        },
        nothing_read names workers more,
      ));
}

-- more was read
pub begun_more : {K : Type 0} (Takes : Taking K) (names : List (List ℕ)) (workers : ℕ) (old between new : Option (List ℕ)) (taken later number : ℕ) (rest longer : List ℕ) (f g : FloorState) (text : List ℕ) (k l : K)
    → IsBegun Takes names workers old between taken number rest f g text k l → TakesBehind between new rest longer → taken + length longer ≡ length rest + later
    → IsBegun Takes names workers old new later number longer f g text k l
begun_more Takes names workers old between new taken later number rest longer f g text k l begun (bs, consumed, is) counted =
    let front = begun.front in
    let size : length longer ≡ length rest + length bs = ap length is ∙ length-append rest bs in
    record {
      front = front ++ bs;
      consumed = Consumes-trans old between new front bs begun.consumed consumed;
      counted = omega (arith, length-append front bs, begun.counted, size, counted);
      goes_on = λ more few.
          let run = begun.goes_on (bs ++ more) (omega (arith, few, length-append front bs, length-append bs more)) in
          let script_is : (front ++ bs) ++ more ≡ front ++ (bs ++ more) = append_assoc front bs more in
          let rest_is : longer ++ more ≡ rest ++ (bs ++ more) = ap (λ t. t ++ more) is ∙ append_assoc rest bs more in
          subst (λ s. RunsTo Takes names workers s number (longer ++ more) f g text k l) (sym script_is)
          (subst (λ r. RunsTo Takes names workers (front ++ (bs ++ more)) number r f g text k l) (sym rest_is) run);
    }

-- lines of what was read were run
pub begun_on : {K : Type 0} (Takes : Taking K) (names : List (List ℕ)) (workers : ℕ) (old new : Option (List ℕ)) (taken number later : ℕ) (rest left : List ℕ) (f g h : FloorState) (text longer : List ℕ) (k l m : K)
    → IsBegun Takes names workers old new taken number rest f g text k l → RunsOn Takes names workers rest left number later g h text longer l m
    → IsBegun Takes names workers old new taken later left f h longer k m
begun_on Takes names workers old new taken number later rest left f g h text longer k l m begun on = record {
  front = begun.front;
  consumed = begun.consumed;
  counted = begun.counted;
  goes_on = λ more few. on (begun.front ++ more) more f k (begun.goes_on more few);
}

-- what a floor is then good for
pub record IsReady (names : List (List ℕ)) (workers : ℕ) (rest : List ℕ) (g : FloorState) : Type 0 where
  pub workers_are : length g.seats ≡ workers
  pub tenants_are : length g.books ≡ length names
  pub room : HasRoom g (length rest)

pub begun_ready : {K : Type 0} (Takes : Taking K) (names : List (List ℕ)) (workers : ℕ) (old new : Option (List ℕ)) (taken number : ℕ) (rest : List ℕ) (f g : FloorState) (text : List ℕ) (k l : K)
    → IsBegun Takes names workers old new taken number rest f g text k l → taken ≤ MAX_SCRIPT + 1 → IsReady names workers rest g
begun_ready Takes names workers old new taken number rest f g text k l begun few =
    let run = (begun.goes_on [] (omega (arith, few, begun.counted))).0 in
    record { workers_are = run.workers_are; tenants_are = run.tenants_are; room = subst (λ r. HasRoom g (length r)) (append-nil rest) run.room }

-- so many bytes were consumed, the last ones after those
pub more_taken : {K : Type 0} (Takes : Taking K) (names : List (List ℕ)) (workers : ℕ) (old between new : Option (List ℕ)) (taken number : ℕ) (rest longer : List ℕ) (f g : FloorState) (text : List ℕ) (k l : K)
    → IsBegun Takes names workers old between taken number rest f g text k l → TakesBehind between new rest longer → taken + length longer ≤ length rest + (MAX_SCRIPT + 1)
    → ConsumesAtMost (MAX_SCRIPT + 1) old new
more_taken Takes names workers old between new taken number rest longer f g text k l begun (bs, consumed, is) few =
    let size : length longer ≡ length rest + length bs = ap length is ∙ length-append rest bs in
    (begun.front ++ bs, omega (arith, few, size, begun.counted, length-append begun.front bs), Consumes-trans old between new begun.front bs begun.consumed consumed)

-- ---- the whole script

-- all of it was read
pub begun_whole : {K : Type 0} (Takes : Taking K) (names : List (List ℕ)) (workers : ℕ) (old between new : Option (List ℕ)) (taken number : ℕ) (rest longer : List ℕ) (f g : FloorState) (text : List ℕ) (k l : K)
    → IsBegun Takes names workers old between taken number rest f g text k l → TakesBehind between new rest longer → IsAtEnd new → taken + length longer ≤ length rest + MAX_SCRIPT
    → IsReadWhole Takes names workers old number longer f g text k l
begun_whole Takes names workers old between new taken number rest longer f g text k l begun (bs, consumed, is) ended few =
    let front = begun.front in
    let size : length longer ≡ length rest + length bs = ap length is ∙ length-append rest bs in
    let run = begun.goes_on bs (omega (arith, few, size, begun.counted)) in
    record {
      script = front ++ bs;
      is_all = Consumes-all old new (front ++ bs) [] (front ++ bs) (Consumes-trans old between new front bs begun.consumed consumed) ended refl;
      short = omega (arith, few, size, begun.counted, length-append front bs);
      runs = subst (λ r. RunsTo Takes names workers (front ++ bs) number r f g text k l) (sym is) run;
    }

-- where the rest is good, all of it is
pub read_good : {K : Type 0} (Takes : Taking K) (names : List (List ℕ)) (workers : ℕ) (known : Option (List ℕ)) (number : ℕ) (rest : List ℕ) (f g : FloorState) (text : List ℕ) (k l : K)
    → IsReadWhole Takes names workers known number rest f g text k l → (steps : List Step) × (steps_from names workers number (lines_of rest) ≡ Ok steps)
    → IsReadGood Takes names workers known rest f g text k l
read_good Takes names workers known number rest f g text k l read found = record {
  script = read.script;
  is_all = read.is_all;
  run = read.runs.0;
  good = rest_is_good names workers number rest found;
  steps = steps_of_whole names workers number read.script rest read.short read.runs.1 found;
}

-- where the rest is bad, all of it is
pub read_bad : {K : Type 0} (Takes : Taking K) (names : List (List ℕ)) (workers : ℕ) (known : Option (List ℕ)) (number : ℕ) (rest : List ℕ) (f g : FloorState) (text : List ℕ) (k l : K) (fault : ScriptFault)
    → IsReadWhole Takes names workers known number rest f g text k l → steps_from names workers number (lines_of rest) ≡ Err fault
    → IfSome known (λ script. steps_of_script names workers script ≡ Err fault)
read_bad Takes names workers known number rest f g text k l fault read bad = by known read.is_all
  where
    here : steps_of_script names workers read.script ≡ Err fault
    here = rest_fails names workers number read.script rest (Fault fault) read.short read.runs.1 bad

    by : (known : Option (List ℕ)) → IfSome known (λ bytes. read.script ≡ bytes) → IfSome known (λ script. steps_of_script names workers script ≡ Err fault)
    by None is = tt
    by (Some bytes) is = subst (λ s. steps_of_script names workers s ≡ Err fault) is here
