use Rattle.std.proofs.Common.{rules, inl, inr, ◌≡◌, ◌+◌, ◌≤◌, ◌++◌, [], List, ℕ, length, take, drop, refl, sym, ap, subst, ◌∙◌, arith, append-nil, length-take, take-take, take_all}
use Rattle.std.proofs.KnownBytes.{Consumes-nil}
use Rattle.std.specs.List.{list_all}
use Rattle.std.specs.Io.KnownBytes.{Consumes}
use Rattle.http_link.specs.Grammars.{is_line_end}
use Rattle.http_link.specs.Limits.{max_head}
use Rattle.http_link.specs.Reading.{BeginsNot, IsHeadBegun, Sees, SeesFurther}
use Rattle.http_link.specs.declared.grammar.Offered.TheVariants.{Malformed, Partial, Whole}
use Rattle.std.proofs.lemmas.List.{take-append-le}
use Rattle.http_link.specs.StreamCalls.{to_come}
use Rattle.http_link.specs.declared.held.Held.{Held}
use Rattle.http_link.proofs.Heads.{all_goes_on, looked_at, none_begins_all, none_yet, nothing_goes_on, stands_whole, too_long}
use Rattle.http_link.proofs.Known.{came_more}
use Rattle.http_link.proofs.head.find_head.Goals as goal

-- a front of a front that stayed has stayed
front_kept : (room out : List ℕ) (end seen blank : ℕ) → blank ≤ seen → take seen out ≡ take seen (take end room) → take blank out ≡ take blank (take end room)
front_kept room out end seen blank within same =
    sym (take-take blank seen out within) ∙ ap (take blank) same ∙ take-take blank seen (take end room) within

pub loop-spans-init : goal.loop-spans-init
loop-spans-init g c = record {
  front = c.requires.front;
  lines = refl;
  came = ([], sym (append-nil (take c.args.stream.now.held.to c.args.stream.now.room.now)), Consumes-nil (to_come c.args.stream.now));
  seen = omega arith;
  few = omega arith;
  blank = omega arith;
  empty = refl;
  exact = λ needed none. omega arith;
  goes_on = nothing_goes_on g.H.HeadSpans.grammar g.met.H.HeadSpans.laws (length c.args.lines.now);
  at_once = inl (refl, refl);
  failures = refl;
  continues = search rules;
}

pub returns-in-Whole-clause-found : goal.returns-in-Whole-clause-found
returns-in-Whole-clause-found g c =
    let room : List ℕ = c.loop-spans.stream.room.now in
    let came = c.loop-spans.invariant.came in
    let sees : Sees g.H.HeadSpans.grammar (take c.min-end.result room) c.scan.new.seen (length c.loop-spans.lines) c.scan.new.lines (Whole c.in-Whole.spans) = rw (c.front.ensures, c.in-Whole.is) at c.scan.ensures.sees in
    record {
      came = came.0;
      grew = came.1;
      taken = came.2;
      stands = stands_whole g.H.HeadSpans.grammar room c.loop-spans.stream.held.to c.min-end.result c.scan.new.seen c.scan.new.lines c.in-Whole.spans (to_come c.loop-spans.stream) (omega arith) (omega arith) (omega arith) (rw c.front.ensures at c.scan.ensures.seen) sees.0 sees.1;
    }

pub returns-in-Malformed-clause-found : goal.returns-in-Malformed-clause-found
returns-in-Malformed-clause-found g c =
    let room : List ℕ = c.loop-spans.stream.room.now in
    let came = c.loop-spans.invariant.came in
    let sees : Sees g.H.HeadSpans.grammar (take c.min-end.result room) c.scan.new.seen (length c.loop-spans.lines) c.scan.new.lines Malformed = rw (c.front.ensures, c.in-Malformed.is) at c.scan.ensures.sees in
    let none = none_begins_all g.H.HeadSpans.grammar room c.loop-spans.stream.held.to c.min-end.result c.scan.new.seen (length c.loop-spans.lines) (length c.scan.new.lines) (omega arith) (omega arith) (rw c.front.ensures at c.scan.ensures.seen) sees in
    record {
      came = came.0;
      grew = came.1;
      taken = came.2;
      stands = none;
    }

pub returns-then-end-eq-MAX_HEAD-clause-found : goal.returns-then-end-eq-MAX_HEAD-clause-found
returns-then-end-eq-MAX_HEAD-clause-found g c =
    let room : List ℕ = c.loop-spans.stream.room.now in
    let end = c.min-end.result in
    let seen = c.scan.new.seen in
    let came = c.loop-spans.invariant.came in
    let sees : Sees g.H.HeadSpans.grammar (take end room) seen (length c.loop-spans.lines) c.scan.new.lines Partial = rw (c.front.ensures, c.in-Partial.is) at c.scan.ensures.sees in
    let all = sees.1 in
    let long : max_head ≤ length (take seen (take end room)) = omega (arith, length-take end room, length-take seen (take end room)) in
    let parts = looked_at room c.loop-spans.stream.held.to end seen (omega arith) (rw c.front.ensures at c.scan.ensures.seen) in
    let none = too_long g.H.HeadSpans.grammar (take c.loop-spans.stream.held.to room) (take seen (take end room)) (drop seen (take c.loop-spans.stream.held.to room)) (length c.loop-spans.lines) (length c.scan.new.lines) (omega arith) parts sees.0 long in
    record {
      came = came.0;
      grew = came.1;
      taken = came.2;
      stands = none;
    }

pub returns-then-n-eq0-clause-found : goal.returns-then-n-eq0-clause-found
returns-then-n-eq0-clause-found g c =
    let room : List ℕ = c.loop-spans.stream.room.now in
    let out : List ℕ = c.fetch.new.self.room.now in
    let had = c.loop-spans.stream.held.to in
    let end = c.min-end.result in
    let seen = c.scan.new.seen in
    let came = c.loop-spans.invariant.came in
    let sees : Sees g.H.HeadSpans.grammar (take end room) seen (length c.loop-spans.lines) c.scan.new.lines Partial = rw (c.front.ensures, c.in-Partial.is) at c.scan.ensures.sees in
    let read = c.in_ok-n.ensures.came in
    let to : c.fetch.new.self.held.to ≡ had = ap (λ (h : Held). h.to) c.fetch.ensures.same.1 in
    let zero : c.in_ok-n.n ≡ 0 = omega arith in
    let whole : end ≡ had = omega arith in
    let more = came_more (to_come c.args.stream.now) (to_come c.loop-spans.stream) (to_come c.fetch.new.self) (take c.args.stream.now.held.to c.args.stream.now.room.now) room out had end c.in_ok-n.n whole came read.2 in
    let all : take seen (take end room) ≡ take end room = take_all seen (take end room) (omega (arith, sees.1)) in
    let parts : take had out ≡ take seen (take end room) ++ read.2.0 =
    ap (λ n. take n out) (omega arith) ∙ read.2.1 ∙ ap (λ (w : List ℕ). w ++ read.2.0) (sym all) in
    let long : length (take had out) ≤ length (take seen (take end room)) = let s = sees.1 in omega (arith, length-take had out, length-take end room, length-take seen (take end room)) in
    let none = all_goes_on g.H.HeadSpans.grammar (take had out) (take seen (take end room)) read.2.0 (length c.loop-spans.lines) (length c.scan.new.lines) (omega arith) parts sees.0 long in
    record {
      came = more.0;
      grew = ap (λ n. take n out) (omega arith) ∙ more.1;
      taken = more.2;
      stands = (subst (λ k. BeginsNot g.H.HeadSpans.grammar (take k out) (length c.scan.new.lines)) (sym to) none, read.1 zero);
    }

pub loop-spans-preserved : goal.loop-spans-preserved
loop-spans-preserved g c =
    let room : List ℕ = c.loop-spans.stream.room.now in
    let out : List ℕ = c.fetch.new.self.room.now in
    let had = c.loop-spans.stream.held.to in
    let end = c.min-end.result in
    let seen = c.scan.new.seen in
    let sees : Sees g.H.HeadSpans.grammar (take end room) seen (length c.loop-spans.lines) c.scan.new.lines Partial = rw (c.front.ensures, c.in-Partial.is) at c.scan.ensures.sees in
    let read = c.in_ok-n.ensures.came in
    let whole : end ≡ had = omega arith in
    let inside = (rw c.front.ensures at c.scan.ensures.seen) in
    let most : seen ≤ end = omega (arith, length-take end room) in
    let same : take seen out ≡ take seen (take end room) =
    sym (take-take seen (end + c.in_ok-n.n) out (omega arith)) ∙ ap (take seen) read.2.1 ∙ take-append-le seen (take end room) read.2.0 inside in
    let fits = read.0 in
    let to : c.fetch.new.self.held.to ≡ had = ap (λ (h : Held). h.to) c.fetch.ensures.same.1 in
    let lines : length c.loop-spans.lines ≡ length c.scan.new.lines = omega arith in
    record {
      front = search rules;
      lines = omega arith;
      came = subst (λ k. (came : List ℕ) × (take (k + c.in_ok-n.n) out ≡ take c.args.stream.now.held.to c.args.stream.now.room.now ++ came) × Consumes (to_come c.args.stream.now) (to_come c.fetch.new.self) came) (sym to)
          (came_more (to_come c.args.stream.now) (to_come c.loop-spans.stream) (to_come c.fetch.new.self) (take c.args.stream.now.held.to c.args.stream.now.room.now) room out had end c.in_ok-n.n whole c.loop-spans.invariant.came read.2);
      seen = omega arith;
      few = omega arith;
      blank = c.scan.ensures.blank;
      empty = ap (list_all is_line_end) (front_kept room out end seen c.scan.new.blank c.scan.ensures.blank same) ∙ (rw c.front.ensures at c.scan.ensures.empty);
      exact = λ needed none.
          let limit = c.limit-limit.ensures.exact (c.loop-spans.invariant.continues.reach ∙ needed) in
          let all = sees.1 in
          omega (arith, length-take end room);
      at_once = inr (none_yet g.H.HeadSpans.grammar c.args.stream.now.reader.now c.loop-spans.stream.reader.now c.loop-spans.stream.room.now (take c.args.stream.now.held.to c.args.stream.now.room.now) c.loop-spans.stream.held.to c.min-end.result c.scan.new.seen (length c.loop-spans.lines) (length c.args.lines.now) (length c.args.lines.now) c.scan.new.lines c.scan.result
          (omega arith) refl (omega arith) c.in-Partial.is (rw c.front.ensures at c.scan.ensures.sees) c.loop-spans.invariant.at_once);
      goes_on = subst (λ (t : List ℕ). IsHeadBegun g.H.HeadSpans.grammar t (length c.scan.new.lines)) (sym same) (subst (λ (room : ℕ). IsHeadBegun g.H.HeadSpans.grammar (take seen (take end c.loop-spans.stream.room.now)) room) lines sees.0);
      failures = search rules;
      continues = search rules;
    }

pub returns-in-Whole-clause-exact : goal.returns-in-Whole-clause-exact
returns-in-Whole-clause-exact g c needed none =
    let room : List ℕ = c.loop-spans.stream.room.now in
    let few = c.loop-spans.invariant.exact needed none in
    let sees : Sees g.H.HeadSpans.grammar (take c.min-end.result room) c.scan.new.seen (length c.loop-spans.lines) c.scan.new.lines (Whole c.in-Whole.spans) = rw (c.front.ensures, c.in-Whole.is) at c.scan.ensures.sees in
    let further : SeesFurther c.loop-spans.seen c.scan.new.seen (Whole c.in-Whole.spans) = rw c.in-Whole.is at c.scan.ensures.further in
    let inside = (rw c.front.ensures at c.scan.ensures.seen) in
    let same = sees.1 in
    omega (arith, length-take c.min-end.result room)

pub returns-in_err-n-clause-at_once : goal.returns-in_err-n-clause-at_once
returns-in_err-n-clause-at_once g c =
    inr (none_yet g.H.HeadSpans.grammar c.args.stream.now.reader.now c.loop-spans.stream.reader.now c.loop-spans.stream.room.now (take c.args.stream.now.held.to c.args.stream.now.room.now) c.loop-spans.stream.held.to c.min-end.result c.scan.new.seen (length c.loop-spans.lines) (length c.args.lines.now) (length c.scan.new.lines) c.scan.new.lines c.scan.result
    (omega arith) (omega arith) (omega arith) c.in-Partial.is (rw c.front.ensures at c.scan.ensures.sees) c.loop-spans.invariant.at_once)

pub returns-then-n-eq0-clause-at_once : goal.returns-then-n-eq0-clause-at_once
returns-then-n-eq0-clause-at_once g c =
    inr (none_yet g.H.HeadSpans.grammar c.args.stream.now.reader.now c.loop-spans.stream.reader.now c.loop-spans.stream.room.now (take c.args.stream.now.held.to c.args.stream.now.room.now) c.loop-spans.stream.held.to c.min-end.result c.scan.new.seen (length c.loop-spans.lines) (length c.args.lines.now) (length c.scan.new.lines) c.scan.new.lines c.scan.result
    (omega arith) (omega arith) (omega arith) c.in-Partial.is (rw c.front.ensures at c.scan.ensures.sees) c.loop-spans.invariant.at_once)

pub scan-requires-clause-blank : goal.scan-requires-clause-blank
scan-requires-clause-blank g c = c.loop-spans.invariant.blank

pub scan-requires-clause-empty : goal.scan-requires-clause-empty
scan-requires-clause-empty g c =
    let room : List ℕ = c.loop-spans.stream.room.now in
    let end = c.min-end.result in
    let blank = c.loop-spans.blank in
    let within = c.loop-spans.invariant.blank in
    let seen = c.loop-spans.invariant.seen in
    let few = c.loop-spans.invariant.few in
    rw c.front.ensures (ap (list_all is_line_end) (take-take blank end room (omega arith)) ∙ c.loop-spans.invariant.empty)
