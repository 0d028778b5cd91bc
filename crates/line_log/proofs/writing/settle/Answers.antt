use Rattle.std.proofs.Common.{◌≡◌, ◌-◌, length-drop, List, ℕ, length, drop, replicate, refl, ◌∙◌, ap, subst, arith}
use Rattle.std.proofs.lemmas.List.{take_all}
use Rattle.line_log.specs.File.{IsMix}
use Rattle.line_log.specs.Blank.{blanked}
use Rattle.line_log.specs.Log.{recovered}
use Rattle.line_log.proofs.Moments.{wider}
use Rattle.line_log.proofs.Steps.{begins, blanked_is, blanked_mix, already_blank}
use Rattle.line_log.proofs.writing.settle.Goals as goal

pub returns-then-is_blank-clause-settled : goal.returns-then-is_blank-clause-settled
returns-then-is_blank-clause-settled g c =
    let bytes = c.args.bytes.now in
    let zeros : drop c.args.end bytes ≡ replicate {A = ℕ} (length (drop c.args.end bytes)) 0 =
    subst (λ (l : List ℕ). l ≡ replicate {A = ℕ} (length l) 0) (take_all (length bytes - c.args.end) (drop c.args.end bytes) (omega (arith, length-drop c.args.end bytes)))
    (c.if-is_blank.ensures.0 refl) in
    begins bytes c.args.end c.requires.end g.D.LogFile.seen g.D.LogFile.may_leave _ refl refl c.requires.room
    (c.requires.read ∙ already_blank bytes c.args.end c.requires.end (omega (arith, c.requires.room)) zeros) c.requires.on_disk

pub returns-in_err-blank-clause-any_moment : goal.returns-in_err-blank-clause-any_moment
returns-in_err-blank-clause-any_moment g c =
    let bytes = c.args.bytes.now in
    wider g.D.LogFile.moment g.D.LogFile.left_since c.args.file.now c.blank.new.file _ (λ f. recovered f ≡ recovered bytes)
    (λ f mix. blanked_mix bytes c.args.end c.requires.end f (subst (λ (l : List ℕ). IsMix l (blanked c.args.end l) f) c.requires.read mix))
    c.blank.ensures.any_moment

pub returns-clause-settled : goal.returns-clause-settled
returns-clause-settled g c =
    let bytes = c.args.bytes.now in
    begins bytes c.args.end c.requires.end g.D.LogFile.seen g.D.LogFile.may_leave _ refl refl c.requires.room
    (c.in_ok-blank.ensures.blanked ∙ ap (λ (l : List ℕ). blanked c.args.end l) c.requires.read ∙ blanked_is bytes c.args.end c.requires.end)
    c.in_ok-blank.ensures.durable

pub returns-clause-any_moment : goal.returns-clause-any_moment
returns-clause-any_moment g c =
    let bytes = c.args.bytes.now in
    wider g.D.LogFile.moment g.D.LogFile.left_since c.args.file.now c.blank.new.file _ (λ f. recovered f ≡ recovered bytes)
    (λ f mix. blanked_mix bytes c.args.end c.requires.end f (subst (λ (l : List ℕ). IsMix l (blanked c.args.end l) f) c.requires.read mix))
    c.blank.ensures.any_moment
