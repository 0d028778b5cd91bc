-- The summary of statements, in lines.
use Rattle.std.specs.Prelude.{ℕ, ℤ, ◌≤◌, ◌^◌, ◌+◌, List, [], ◌∷◌, ◌++◌, codes, length}
use Rattle.std.specs.Fmt.{signed_decimal}
use Rattle.std.specs.List.{flat_map}
use Rattle.statements.specs.Chain.{Done, due_behind, lines_behind, periods_in, records_in, records_of}
use Rattle.statements.specs.Due.{opening_due}
use Rattle.statements.specs.Line.{AreLinesOver, balance_in, lines_after, lines_with}
use Rattle.statements.specs.Statement.{number, word}
use Rattle.statements.specs.Sums.{sum_at}
use Rattle.statements.specs.declared.chain.Chain.{Chain}
use Rattle.statements.specs.declared.due.Due.TheVariants.{Anything}
use Rattle.statements.specs.declared.line.Line.{Line}
use Rattle.statements.specs.declared.line.PeerSums.{PeerSums}
use Rattle.statements.specs.declared.seen.PeerSeen.{PeerSeen}
use Rattle.tenant_core.specs.declared.period.PeriodParts.{PeriodParts}

-- the sums of a chain for a peer since the service began last
abbrev pub told_by : Chain → ℕ → PeerSums
told_by c n =
    record {
      ended = balance_in (opening_due c.due) n;
      came = sum_at c.totals.came n;
      fulfilled_in = sum_at c.totals.fulfilled_in n;
      settled_in = sum_at c.totals.settled_in n;
      went = sum_at c.totals.went n;
      fulfilled_out = sum_at c.totals.fulfilled_out n;
      settled_out = sum_at c.totals.settled_out n;
      fees = sum_at c.totals.fees n;
    }

-- the lines of a chain
abbrev pub chain_lines : Chain → List Line
chain_lines c = lines_with (told_by c) c.past.lines.items c.totals.first.items c.totals.added.items

-- the sums of all runs have no room
pub data IsLongPast (c : Chain) : Type 0 where
  Periods : 2 ^ 64 ≤ c.past.periods + c.totals.periods → IsLongPast c
  Entries : 2 ^ 64 ≤ c.past.entries + c.totals.entries → IsLongPast c
  Lines : AreLinesOver (told_by c) c.past.lines.items → IsLongPast c

-- a number under its key
unfoldable pub keyed : List ℕ → ℕ → List ℕ
keyed key n = word key ++ number n

-- a number that may be below 0, under its key
unfoldable pub keyed_signed : List ℕ → ℤ → List ℕ
keyed_signed key n = word key ++ word (signed_decimal n)

-- what came in from a peer
unfoldable pub in_words : PeerSums → List ℕ
in_words t =
    keyed (codes "packets-in") t.came ++ keyed (codes "fulfilled-in") t.fulfilled_in
    ++ keyed (codes "settled-in") t.settled_in

-- what went out to it
unfoldable pub out_words : PeerSums → List ℕ
out_words t =
    keyed (codes "packets-out") t.went ++ keyed (codes "fulfilled-out") t.fulfilled_out
    ++ keyed (codes "settled-out") t.settled_out

-- who the peer is, and what it owed at first and at the end
unfoldable pub seen_words : PeerSeen → PeerSums → List ℕ
seen_words s t =
    codes "peer" ++ number s.number ++ word s.name ++ keyed_signed (codes "began") s.began
    ++ keyed_signed (codes "ended") t.ended

-- the line of a peer: what it owed at first and at the end, and its sums
unfoldable pub told_line : PeerSeen → PeerSums → List ℕ
told_line s t = seen_words s t ++ in_words t ++ out_words t ++ keyed (codes "fees") t.fees ++ 10 ∷ []

abbrev pub summary_line : Line → List ℕ
summary_line l = told_line l.seen l.told

-- how many periods there are, and how many records they have
unfoldable pub good_line : ℕ → ℕ → List ℕ
good_line periods entries = codes "good" ++ number periods ++ number entries ++ 10 ∷ []

-- the summary of statements: how many there are, and a line for each peer that was there
abbrev pub summary_text : List Done → List PeriodParts → List ℕ
summary_text ds ps =
    good_line (periods_in ds + length ps) (records_in ds + records_of ps)
    ++ flat_map summary_line (lines_after (lines_behind [] Anything ds) (due_behind Anything ds) ps)

-- the same, from the sums of a chain
abbrev pub chain_text : Chain → List ℕ
chain_text c = good_line (c.past.periods + c.totals.periods) (c.past.entries + c.totals.entries) ++ flat_map summary_line (chain_lines c)
