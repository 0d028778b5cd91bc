-- A chain of one link more.
use Rattle.std.proofs.Common.{◌≡◌, ℕ, ◌+◌, List, [], ◌∷◌, ◌++◌, length, map, refl, ap, sym, subst, ◌∙◌, arith}
use Rattle.std.specs.Prelude.{Err, IfErr, Ok, Result}
use Rattle.std.specs.List.{flat_map}
use Rattle.std.proofs.lemmas.Grind.{flat_map-append}
use Rattle.std.proofs.lemmas.List.{append-nil, append_assoc}
use Rattle.std.proofs.lemmas.List.Sums.{fold_push, sum_by_push}
use Rattle.std.proofs.lemmas.List.Elements.{All-nil, All-push}
use Rattle.std.proofs.lemmas.Slice.Zip.{all_zipped_more}
use Rattle.common_types.specs.declared.read_error.ReadError.{ReadError}
use Rattle.common_types.specs.declared.read_error.ReadError.TheVariants.{Fault, Memory}
use Rattle.statements.specs.Chain.{AreDone, AreChained, Continues, Done, IsChain, IsRun, Link, Opens}
use Rattle.statements.specs.Chain.{due_behind, lines_behind, lines_done, links_of, records_of}
use Rattle.statements.specs.Chain.Link.{Begun, Stated}
use Rattle.statements.specs.Due.{Start, due_after, due_by}
use Rattle.statements.specs.Refused.{IsNotAdded, IsNotJoined}
use Rattle.statements.specs.Statement.{IsStatement}
use Rattle.statements.specs.Totals.{AreTotals}
use Rattle.statements.specs.declared.chain.Chain.{Chain}
use Rattle.statements.specs.declared.chain.ChainFault.{ChainFault}
use Rattle.statements.specs.declared.chain.ChainFault.TheVariants as fault
use Rattle.statements.specs.declared.due.Due.{Due}
use Rattle.statements.specs.declared.due.Due.TheVariants.{Anything, Ending}
use Rattle.statements.specs.declared.line.Line.{Line}
use Rattle.tenant_core.specs.Closing.{IsPeriod}
use Rattle.tenant_core.specs.declared.period.PeriodParts.{PeriodParts}

joined_more : (due : Due) (ps : List PeriodParts) (p : PeriodParts) → AreChained due ps → Opens (due_after due ps) p
    → AreChained due (ps ++ p ∷ [])
joined_more due [] p joined opens = (opens, tt)
joined_more due (q ∷ qs) p joined opens = (joined.0, joined_more (Ending q.ending) qs p joined.1 opens)

run_more : (due : Due) (texts : List (List ℕ)) (ps : List PeriodParts) (text : List ℕ) (p : PeriodParts) → IsRun due texts ps
    → IsStatement text p → IsPeriod p → Opens (due_after due ps) p → IsRun due (texts ++ text ∷ []) (ps ++ p ∷ [])
run_more due texts ps text p run stated closed opens =
    record {
      stated = all_zipped_more IsStatement texts ps text p run.stated stated;
      closed = All-push IsPeriod ps p run.closed closed;
      joined = joined_more due ps p run.joined opens;
    }

stated_more : (texts : List (List ℕ)) (text : List ℕ) → map Stated (texts ++ text ∷ []) ≡ map Stated texts ++ Stated text ∷ []
stated_more [] text = refl
stated_more (t ∷ texts) text = ap (λ (links : List Link). Stated t ∷ links) (stated_more texts text)

pub chain_more : (links : List Link) (before after : Chain) (text : List ℕ) (p : PeriodParts) → IsStatement text p → IsPeriod p
    → Opens before.due p → after.due ≡ Ending p.ending → after.past ≡ before.past
    → ((ps : List PeriodParts) → AreTotals ps before.totals → AreTotals (ps ++ p ∷ []) after.totals)
    → IsChain links before → IsChain (links ++ Stated text ∷ []) after
chain_more links before after text p stated closed opens due past totals chain =
    let from : Due = due_behind Anything chain.done in
    let front : List Link = flat_map links_of chain.done in
    record {
      done = chain.done;
      texts = chain.texts ++ text ∷ [];
      periods = chain.periods ++ p ∷ [];
      took = ap (λ (ls : List Link). ls ++ Stated text ∷ []) chain.took
          ∙ (append_assoc front (map Stated chain.texts) (Stated text ∷ [])
          ∙ ap (λ (ls : List Link). front ++ ls) (sym (stated_more chain.texts text)));
      runs = chain.runs;
      last = run_more from chain.texts chain.periods text p chain.last stated closed (subst (λ (d : Due). Opens d p) chain.due opens);
      due = due ∙ sym (fold_push (λ (before : Due) (q : PeriodParts). Ending q.ending) from chain.periods p);
      past_periods = ap (λ past. past.periods) past ∙ chain.past_periods;
      past_records = ap (λ past. past.entries) past ∙ chain.past_records;
      past_lines = ap (λ past. past.lines.items) past ∙ chain.past_lines;
      totals = totals chain.periods chain.totals;
    }

-- ---- the service begins again

done_more : (due : Due) (ds : List Done) (d : Done) → AreDone due ds → IsRun (due_behind due ds) d.texts d.periods
    → Continues (due_after (due_behind due ds) d.periods) d.next → AreDone due (ds ++ d ∷ [])
done_more due [] d done run continues = (run, continues, tt)
done_more due (e ∷ ds) d done run continues = (done.0, done.1, done_more (due_by e.next) ds d done.2 run continues)

lines_more : (ls : List Line) (due : Due) (ds : List Done) (d : Done)
    → lines_behind ls due (ds ++ d ∷ []) ≡ lines_done (lines_behind ls due ds) (due_behind due ds) d
lines_more ls due [] d = refl
lines_more ls due (e ∷ ds) d = lines_more (lines_done ls due e) (due_by e.next) ds d

links_more : (ds : List Done) (d : Done)
    → (flat_map links_of ds ++ map Stated d.texts) ++ Begun d.next ∷ [] ≡ flat_map links_of (ds ++ d ∷ []) ++ []
links_more ds d =
    let front : List Link = flat_map links_of ds in
    append_assoc front (map Stated d.texts) (Begun d.next ∷ [])
    ∙ (ap (λ (ls : List Link). front ++ ls) (sym (append-nil (links_of d)))
    ∙ (sym (flat_map-append links_of ds (d ∷ [])) ∙ sym (append-nil (flat_map links_of (ds ++ d ∷ [])))))

pub chain_begun : (links : List Link) (before after : Chain) (s : Start) → Continues before.due s → after.due ≡ due_by s
    → after.past.periods ≡ before.past.periods + before.totals.periods
    → after.past.entries ≡ before.past.entries + before.totals.entries
    → ((is : IsChain links before) → after.past.lines.items
    ≡ lines_done (lines_behind [] Anything is.done) (due_behind Anything is.done) (record { texts = is.texts; periods = is.periods; next = s }))
    → AreTotals [] after.totals → IsChain links before → IsChain (links ++ Begun s ∷ []) after
chain_begun links before after s continues due periods entries past totals chain =
    let ds : List Done = chain.done in
    let d : Done = record { texts = chain.texts; periods = chain.periods; next = s } in
    let from : Due = due_behind Anything ds in
    record {
      done = ds ++ d ∷ [];
      texts = [];
      periods = [];
      took = ap (λ (ls : List Link). ls ++ Begun s ∷ []) chain.took ∙ links_more ds d;
      runs = done_more Anything ds d chain.runs chain.last (subst (λ (x : Due). Continues x s) chain.due continues);
      last = record { stated = tt; closed = All-nil IsPeriod; joined = tt };
      due = due ∙ sym (fold_push (λ (before : Due) (e : Done). due_by e.next) Anything ds d);
      past_periods = periods ∙ (let a = chain.past_periods in let b = chain.totals.periods in let c = sum_by_push (λ (e : Done). length e.periods) ds d in omega arith);
      past_records = entries ∙ (let a = chain.past_records in let b = chain.totals.entries in let c = sum_by_push (λ (e : Done). records_of e.periods) ds d in omega arith);
      past_lines = past chain ∙ sym (lines_more [] Anything ds d);
      totals = totals;
    }

-- ---- what is not taken

pub fault_of_text : (c : Chain) (text : List ℕ) (p : PeriodParts) (r : Result (Unit {0}) (ReadError ChainFault)) → IsStatement text p → IsPeriod p
    → IfErr r (IsNotJoined c p) → IfErr r (IsNotAdded c text)
fault_of_text c text p (Ok x) stated closed was = tt
fault_of_text c text p (Err Memory) stated closed was = tt
fault_of_text c text p (Err (Fault (fault.Statement f))) stated closed was = tt
fault_of_text c text p (Err (Fault (fault.Apart line))) stated closed was = (p, stated, closed, was)
fault_of_text c text p (Err (Fault (fault.Unlike line))) stated closed was = (p, stated, closed, was)
fault_of_text c text p (Err (Fault fault.Changed)) stated closed was = (p, stated, closed, was)
fault_of_text c text p (Err (Fault fault.Long)) stated closed was = (p, stated, closed, was)
