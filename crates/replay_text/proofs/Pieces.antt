-- Lines of steps that are done and written one after the other.
use Rattle.std.proofs.Common.{◌≡◌, ◌+◌, ◌≤◌, ℕ, List, [], ◌∷◌, ◌++◌, length, take, drop, Option, Some, None, refl, sym, ap, subst, ◌∙◌, append-nil, arith}
use Rattle.std.specs.Prelude.{slice_index}
use Rattle.std.specs.Io.KnownBytes.{Appends}
use Rattle.std.proofs.KnownBytes.{Appends-trans}
use Rattle.std.proofs.Math.Seq.{take-append_seam}
use Rattle.std.proofs.lemmas.Grind.{flat_map-append}
use Rattle.std.proofs.lemmas.List.{append_assoc, take-append-drop}
use Rattle.floor_core.specs.FloorView.{FloorState, HasRoom}
use Rattle.floor_core.specs.World.{World, AreOutputs, IsLeft}
use Rattle.floor_core.specs.Worlds.{reply, world_after, replies, after_all}
use Rattle.floor_core.specs.declared.step.Output.{Output}
use Rattle.floor_core.specs.declared.step.Step.{Step}
use Rattle.output_text.specs.Printed.{output_line, printed_lines}
use Rattle.replay_text.specs.Replay.{ArePrinted, HasLong, Prints, WritesDone, WritesLines, WritesSome}
use Rattle.replay_text.specs.Script.{lines_of, meaning_of, steps_in}
use Rattle.replay_text.specs.SoFar.{AreSoFar}
use Rattle.replay_text.specs.Streams.{AppendsFront, WritesUpTo}
use Rattle.replay_text.specs.declared.script.Meaning.TheVariants.{Skipped, Runs}
use Rattle.replay_text.proofs.Scripts.{steps_behind}

-- ---- the laws of the floor

abbrev pub OutputsLaw : Type 0
OutputsLaw = (world between : World) (steps more : List Step) (xs ys : List Output) → AreOutputs world steps xs → IsLeft world steps xs between → AreOutputs between more ys
    → AreOutputs world (steps ++ more) (xs ++ ys)

abbrev pub LeftLaw : Type 0
LeftLaw = (world between last : World) (steps more : List Step) (xs ys : List Output) → AreOutputs world steps xs → IsLeft world steps xs between → AreOutputs between more ys
    → IsLeft between more ys last → IsLeft world (steps ++ more) (xs ++ ys) last

abbrev pub RepliesLaw : Type 0
RepliesLaw = (world : World) (steps : List Step) → AreOutputs world steps (replies world steps)

abbrev pub AfterLaw : Type 0
AfterLaw = (world : World) (steps : List Step) → IsLeft world steps (replies world steps) (after_all world steps)

-- both pairs
pub record Laws : Type 0 where
  pub outputs : OutputsLaw
  pub left : LeftLaw
  pub replies : RepliesLaw
  pub after : AfterLaw

-- ---- what is printed

-- no step, and no line
pub prints_none : Laws → (names : List (List ℕ)) (w : World) (text : List ℕ) → Prints names [] w w text text
prints_none laws names w text = ([], laws.replies w [], laws.after w [], sym (append-nil text))

-- one step
pub prints_one : RepliesLaw → AfterLaw → (names : List (List ℕ)) (step : Step) (w m : World) (output : Output) (a b : List ℕ) → output ≡ reply w step → m ≡ world_after w step → b ≡ a ++ output_line names output
    → Prints names (step ∷ []) w m a b
prints_one outputs left names step w m output a b is world printed = (
  reply w step ∷ [],
  outputs w (step ∷ []),
  subst (λ (x : World). IsLeft w (step ∷ []) (reply w step ∷ []) x) (sym world) (left w (step ∷ [])),
  printed ∙ ap (λ (o : Output). a ++ output_line names o) is ∙ ap (λ t. a ++ t) (sym (append-nil (output_line names (reply w step)))),
)

-- lines behind lines
pub prints_more : Laws → (names : List (List ℕ)) (steps more : List Step) (w m n : World) (a b c : List ℕ) → Prints names steps w m a b → Prints names more m n b c
    → Prints names (steps ++ more) w n a c
prints_more laws names steps more w m n a b c p q =
    let lines : c ≡ a ++ printed_lines names (p.0 ++ q.0) =
    q.3 ∙ (ap (λ t. t ++ printed_lines names q.0) p.3
    ∙ (append_assoc a (printed_lines names p.0) (printed_lines names q.0)
    ∙ ap (λ t. a ++ t) (sym (flat_map-append (output_line names) p.0 q.0)))) in
    (p.0 ++ q.0, laws.outputs w m steps more p.0 q.0 p.1 p.2 q.1, laws.left w m n steps more p.0 q.0 p.1 p.2 q.1 q.2, lines)

-- a text may stand before both
pub prints_behind : (names : List (List ℕ)) (steps : List Step) (w m : World) (front a b : List ℕ) → Prints names steps w m a b → Prints names steps w m (front ++ a) (front ++ b)
prints_behind names steps w m front a b p = (p.0, p.1, p.2, ap (λ t. front ++ t) p.3 ∙ sym (append_assoc front a (printed_lines names p.0)))

-- steps have lines in every world
pub prints_all : Laws → (names : List (List ℕ)) (steps : List Step) (w : World) (text : List ℕ) → Prints names steps w (after_all w steps) text (text ++ printed_lines names (replies w steps))
prints_all laws names steps w text = (replies w steps, laws.replies w steps, laws.after w steps, refl)

-- ---- how far the steps of a list are done

-- none is done
pub none_so_far : Laws → (names : List (List ℕ)) (w : World) (steps : List Step) → AreSoFar names w w steps steps []
none_so_far laws names w steps = ([], refl, prints_none laws names w [])

-- some more are
pub more_so_far : Laws → (names : List (List ℕ)) (steps rest piece behind : List Step) (w m n : World) (text longer : List ℕ) → piece ++ behind ≡ rest
    → AreSoFar names w m steps rest text → Prints names piece m n text longer → AreSoFar names w n steps behind longer
more_so_far laws names steps rest piece behind w m n text longer split far more = (
  far.0 ++ piece,
  append_assoc far.0 piece behind ∙ (ap (λ ss. far.0 ++ ss) split ∙ far.1),
  prints_more laws names far.0 piece w m n [] text longer far.2 more,
)

-- those of one more line of a script are
pub line_so_far : Laws → (names : List (List ℕ)) (workers : ℕ) (steps : List Step) (rest line behind : List ℕ) (w m n : World) (text longer : List ℕ) → lines_of rest ≡ line ∷ lines_of behind
    → AreSoFar names w m steps (steps_in names workers (lines_of rest)) text → Prints names (steps_in names workers (line ∷ [])) m n text longer
    → AreSoFar names w n steps (steps_in names workers (lines_of behind)) longer
line_so_far laws names workers steps rest line behind w m n text longer first far more =
    more_so_far laws names steps (steps_in names workers (lines_of rest)) (steps_in names workers (line ∷ [])) (steps_in names workers (lines_of behind)) w m n text longer
    (steps_behind names workers line (lines_of behind) ∙ ap (steps_in names workers) (sym first)) far more

-- the lines so far are the front of all lines
pub all_printed : Laws → (names : List (List ℕ)) (w m : World) (steps rest : List Step) (text : List ℕ) → AreSoFar names w m steps rest text
    → (more : List ℕ) × ArePrinted names w steps (text ++ more)
all_printed laws names w m steps rest text far =
    let all = prints_more laws names far.0 rest w m (after_all m rest) [] text _ far.2 (prints_all laws names rest m text) in
    (printed_lines names (replies m rest), subst (λ (ss : List Step). ArePrinted names w ss (text ++ printed_lines names (replies m rest))) far.1 (all.0, all.1, all.3))

-- where none is left, they are all
pub none_left : (names : List (List ℕ)) (w m : World) (steps : List Step) (text : List ℕ) → AreSoFar names w m steps [] text → ArePrinted names w steps text
none_left names w m steps text far =
    subst (λ (ss : List Step). ArePrinted names w ss text) (sym (append-nil far.0) ∙ far.1) (far.2.0, far.2.1, far.2.3)

-- ---- what is written

-- a text of which a front was written
front_of : (old new : Option (List ℕ)) (text front rest : List ℕ) → text ≡ front ++ rest → Appends old new front → AppendsFront text old new
front_of old new text front rest is done =
    (length front, subst (Appends old new) (sym (ap (take (length front)) is ∙ take-append_seam front rest)) done)

-- some lines were written, and others are to be
pub record Far (names : List (List ℕ)) (before now : World) (steps rest : List Step) (text : List ℕ) (old new : Option (List ℕ)) : Type 0 where
  pub written : List ℕ
  pub appended : Appends old new written
  pub so_far : AreSoFar names before now steps rest (written ++ text)

-- more lines are to be written
pub farther : Laws → (names : List (List ℕ)) (steps rest piece behind : List Step) (w m n : World) (text longer : List ℕ) (old new : Option (List ℕ)) → piece ++ behind ≡ rest
    → Far names w m steps rest text old new → Prints names piece m n text longer → Far names w n steps behind longer old new
farther laws names steps rest piece behind w m n text longer old new split far more =
    record {
      written = far.written;
      appended = far.appended;
      so_far = more_so_far laws names steps rest piece behind w m n (far.written ++ text) (far.written ++ longer) split far.so_far (prints_behind names piece m n far.written text longer more);
    }

-- the lines of one more line of a script are to be written
pub line_farther : Laws → (names : List (List ℕ)) (workers : ℕ) (steps : List Step) (rest line behind : List ℕ) (w m n : World) (text longer : List ℕ) (old new : Option (List ℕ)) → lines_of rest ≡ line ∷ lines_of behind
    → Far names w m steps (steps_in names workers (lines_of rest)) text old new → Prints names (steps_in names workers (line ∷ [])) m n text longer
    → Far names w n steps (steps_in names workers (lines_of behind)) longer old new
line_farther laws names workers steps rest line behind w m n text longer old new first far more =
    farther laws names steps (steps_in names workers (lines_of rest)) (steps_in names workers (line ∷ [])) (steps_in names workers (lines_of behind)) w m n text longer old new
    (steps_behind names workers line (lines_of behind) ∙ ap (steps_in names workers) (sym first)) far more

-- the same text is to be written
pub same_far : (names : List (List ℕ)) (w m : World) (steps rest : List Step) (text same : List ℕ) (old new : Option (List ℕ)) → same ≡ text → Far names w m steps rest text old new → Far names w m steps rest same old new
same_far names w m steps rest text same old new e far = subst (λ t. Far names w m steps rest t old new) (sym e) far

-- some of those that were to be written were
pub written_farther : (names : List (List ℕ)) (w m : World) (steps rest : List Step) (text left : List ℕ) (old between new : Option (List ℕ)) → Far names w m steps rest text old between → WritesUpTo text left between new
    → Far names w m steps rest left old new
written_farther names w m steps rest text left old between new far more = record {
  written = far.written ++ more.0;
  appended = Appends-trans old between new far.written more.0 far.appended more.2;
  so_far = subst (AreSoFar names w m steps rest) (ap (λ t. far.written ++ t) more.1 ∙ sym (append_assoc far.written more.0 left)) far.so_far;
}

-- nothing was written
pub not_far : (names : List (List ℕ)) (w m : World) (steps rest : List Step) (text : List ℕ) (old : Option (List ℕ)) → AreSoFar names w m steps rest text → Far names w m steps rest text old old
not_far names w m steps rest text old so_far = record { written = []; appended = by old; so_far = so_far }
  where
    by : (known : Option (List ℕ)) → Appends known known []
    by None = tt
    by (Some xs) = sym (append-nil xs)

-- a front of all lines was written, however little of the last text
pub some_written : Laws → (names : List (List ℕ)) (w m : World) (steps rest : List Step) (text : List ℕ) (old between new : Option (List ℕ)) → Far names w m steps rest text old between → AppendsFront text between new
    → WritesSome names w steps old new
some_written laws names w m steps rest text old between new far front =
    let all = all_printed laws names w m steps rest (far.written ++ text) far.so_far in
    let here : List ℕ = take front.0 text in
    let behind : List ℕ = drop front.0 text ++ all.0 in
    let split : (far.written ++ text) ++ all.0 ≡ (far.written ++ here) ++ behind =
    ap (λ t. (far.written ++ t) ++ all.0) (sym (take-append-drop front.0 text))
    ∙ (ap (λ t. t ++ all.0) (sym (append_assoc far.written here (drop front.0 text)))
    ∙ append_assoc (far.written ++ here) (drop front.0 text) all.0) in
    ((far.written ++ text) ++ all.0, all.1, front_of old new _ (far.written ++ here) behind split (Appends-trans old between new far.written here far.appended front.1))

-- and what was written stays written
pub written_before : Laws → (names : List (List ℕ)) (w m : World) (steps rest : List Step) (text : List ℕ) (old new : Option (List ℕ)) → Far names w m steps rest text old new → WritesSome names w steps old new
written_before laws names w m steps rest text old new far =
    let all = all_printed laws names w m steps rest (far.written ++ text) far.so_far in
    ((far.written ++ text) ++ all.0, all.1, front_of old new _ far.written (text ++ all.0) (append_assoc far.written text all.0) far.appended)

-- all lines were written
pub all_written : (names : List (List ℕ)) (w m : World) (steps : List Step) (text : List ℕ) (old between new : Option (List ℕ)) → Far names w m steps [] text old between → Appends between new text
    → WritesLines names w steps old new
all_written names w m steps text old between new far last =
    (far.written ++ text, none_left names w m steps (far.written ++ text) far.so_far, Appends-trans old between new far.written text far.appended last)

-- the lines of the steps that were done were written
pub done_written : (names : List (List ℕ)) (w m : World) (steps rest : List Step) (text : List ℕ) (old between new : Option (List ℕ)) → Far names w m steps rest text old between → Appends between new text
    → WritesDone names w steps m old new
done_written names w m steps rest text old between new far last =
    (far.so_far.0, rest, far.so_far.1, far.written ++ text, far.so_far.2, Appends-trans old between new far.written text far.appended last)

-- ---- numbers of calls

-- a floor with room for more calls has room for fewer
pub room_for_fewer : (f : FloorState) (few many : ℕ) → few ≤ many → HasRoom f many → HasRoom f few
room_for_fewer f few many less room = λ t within. omega (arith, room t within)

-- a step takes one number at most
pub room_behind : (f g : FloorState) → length g.books ≡ length f.books → ((t : ℕ) → slice_index g.next_calls t ≤ slice_index f.next_calls t + 1) → (n : ℕ) → HasRoom f (1 + n) → HasRoom g n
room_behind f g same counted n room = λ t within. omega (arith, counted t, room t (omega (arith, same)))

-- the step of a line
pub prints_line : (names : List (List ℕ)) (workers : ℕ) (line : List ℕ) (step : Step) (w m : World) (a b : List ℕ) → meaning_of names workers line ≡ Runs step → Prints names (step ∷ []) w m a b
    → Prints names (steps_in names workers (line ∷ [])) w m a b
prints_line names workers line step w m a b e p = rw e p

-- a line that is skipped has none
pub prints_skipped : RepliesLaw → AfterLaw → (names : List (List ℕ)) (workers : ℕ) (line : List ℕ) (w : World) (a : List ℕ) → meaning_of names workers line ≡ Skipped
    → Prints names (steps_in names workers (line ∷ [])) w w a a
prints_skipped outputs left names workers line w a e = rw e ([], outputs w [], left w [], sym (append-nil a))

-- and so it is where its lines are too long
pub long_line : (most : ℕ) (names : List (List ℕ)) (workers : ℕ) (line : List ℕ) (step : Step) (w m : World) → meaning_of names workers line ≡ Runs step
    → HasLong most names (step ∷ []) w m → HasLong most names (steps_in names workers (line ∷ [])) w m
long_line most names workers line step w m e long = rw e long
