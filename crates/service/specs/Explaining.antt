-- Which check decides on a packet, in words.
use Rattle.std.specs.Prelude.{ℕ, zero, suc, ℤ, List, [], ◌∷◌, ◌++◌, codes, ◌==◌, if◌then◌else◌, Option, Some, None, option_and_then, option_map}
use Rattle.std.specs.Fmt.{decimal, signed_decimal}
use Rattle.tenant_core.specs.Codes.{code_of}
use Rattle.tenant_core.specs.Findings.{finding_of, verdict_of}
use Rattle.tenant_core.specs.Network.{peer_named, peer_numbered}
use Rattle.tenant_core.specs.Present.{network_of}
use Rattle.tenant_core.specs.State.{State}
use Rattle.tenant_core.specs.declared.finding.Finding.{Finding}
use Rattle.tenant_core.specs.declared.finding.Finding.TheVariants.{NoPeer, JournalFull, BucketEmpty, Expired, NoChild, ConfigAmount, ConfigCondition, Config, ForNeighbors, OwnAddress, OverCap}
use Rattle.tenant_core.specs.declared.finding.Finding.TheVariants.{NoRoute, LeadsBack, NoRate, BelowFee, OverNextCap, ExpiresOnward, OverCeiling, OverCredit, TooManyHeld, GoesOn}
use Rattle.tenant_core.specs.declared.peer.Peer.{Peer}
use Rattle.tenant_core.specs.declared.verdict.Verdict.{Verdict}
use Rattle.tenant_core.specs.declared.verdict.Verdict.TheVariants.{Unknown, NoRoom, Refuse, Fulfil, Forward, Relay}
use Rattle.service.specs.Questions.{Question, key_asked}

-- ---- checks

-- how many checks pass before the deciding one
abbrev pub passed_before : Finding → ℕ
passed_before NoPeer = 0
passed_before (JournalFull entries awaited places) = 1
passed_before (BucketEmpty credit) = 2
passed_before (Expired expiry clock) = 3
passed_before NoChild = 4
passed_before (ConfigAmount amount) = 4
passed_before ConfigCondition = 4
passed_before Config = 4
passed_before ForNeighbors = 5
passed_before OwnAddress = 6
passed_before (OverCap amount cap) = 7
passed_before NoRoute = 8
passed_before LeadsBack = 8
passed_before (NoRate to) = 9
passed_before (BelowFee price fee) = 10
passed_before (OverNextCap to price cap amount greatest) = 11
passed_before (ExpiresOnward expiry clock) = 12
passed_before (OverCeiling balance held amount ceiling) = 13
passed_before (OverCredit to balance held price credit) = 14
passed_before (TooManyHeld awaited) = 15
passed_before (GoesOn hold to price expiry) = 16

-- the line of a check that passes, by its number from 0 on
unfoldable pub passed_line : ℕ → List ℕ
passed_line check =
    if check == 0 then codes "ok token: a peer shows it\n"
    else (if check == 1 then codes "ok journal: it has room for the packet and its answer\n"
    else (if check == 2 then codes "ok bucket: it admits the packet\n"
    else (if check == 3 then codes "ok expiry: it is after the clock\n"
    else (if check == 4 then codes "ok configuration: the packet does not ask for it\n"
    else (if check == 5 then codes "ok destination: it is no neighbor's\n"
    else (if check == 6 then codes "ok destination: it is not the tenant's own\n"
    else (if check == 7 then codes "ok cap: the amount is within the sender's\n"
    else (if check == 8 then codes "ok route: the best one leads to another peer\n"
    else (if check == 9 then codes "ok rate: there is one from the sender to the next peer\n"
    else (if check == 10 then codes "ok fee: the price is not below it\n"
    else (if check == 11 then codes "ok cap: the outgoing amount is within the next peer's\n"
    else (if check == 12 then codes "ok expiry: the outgoing one is after the clock\n"
    else (if check == 13 then codes "ok ceiling: the sender stays within it\n"
    else (if check == 14 then codes "ok credit: the next peer stays within it\n"
    else codes "ok answers: fewer than 1024 packets await theirs\n"))))))))))))))

-- the lines of so many checks, from the first one on
abbrev pub passed_upto : ℕ → List ℕ
passed_upto zero = []
passed_upto (suc n) = passed_upto n ++ passed_line n

-- the line of the deciding check, unless all pass
abbrev pub deciding_line : Finding → List ℕ
deciding_line NoPeer = codes "no token: no peer has that name\n"
deciding_line (JournalFull entries awaited places) = codes "no journal: it has no room for the packet and its answer\n"
deciding_line (BucketEmpty credit) = codes "no bucket: it has less than the 1000 that a packet costs\n"
deciding_line (Expired expiry clock) = codes "no expiry: it is not after the clock\n"
deciding_line NoChild = codes "no configuration: the sender is no child\n"
deciding_line (ConfigAmount amount) = codes "no configuration: the amount is not 0\n"
deciding_line ConfigCondition = codes "no configuration: the condition is not that of 32 zero bytes\n"
deciding_line Config = codes "ok configuration: the packet asks for it\n"
deciding_line ForNeighbors = codes "no destination: it is a neighbor's\n"
deciding_line OwnAddress = codes "no destination: it is the tenant's own\n"
deciding_line (OverCap amount cap) = codes "no cap: the amount is over the sender's\n"
deciding_line NoRoute = codes "no route: none leads there\n"
deciding_line LeadsBack = codes "no route: the best one leads back to the sender\n"
deciding_line (NoRate to) = codes "no rate: there is none from the sender to the next peer\n"
deciding_line (BelowFee price fee) = codes "no fee: the price is below it\n"
deciding_line (OverNextCap to price cap amount greatest) = codes "no cap: the outgoing amount is over the next peer's\n"
deciding_line (ExpiresOnward expiry clock) = codes "no expiry: the outgoing one is not after the clock\n"
deciding_line (OverCeiling balance held amount ceiling) = codes "no ceiling: the sender would pass it\n"
deciding_line (OverCredit to balance held price credit) = codes "no credit: the next peer would pass it\n"
deciding_line (TooManyHeld awaited) = codes "no answers: 1024 packets await theirs\n"
deciding_line (GoesOn hold to price expiry) = []

-- ---- numbers

-- the line of a number: its name, and its value
unfoldable pub figure : List ℕ → List ℕ → List ℕ
figure words said = codes "   " ++ words ++ codes " " ++ said ++ 10 ∷ []

-- a peer's balance, which is what it owes, the amount that is held, and that of the packet
unfoldable pub money_figures : ℤ → ℕ → ℕ → List ℕ
money_figures balance held amount =
    figure (codes "balance") (signed_decimal balance) ++ figure (codes "held") (decimal held)
    ++ figure (codes "amount") (decimal amount)

-- the numbers that the deciding check compared
abbrev pub figures_of : Finding → List ℕ
figures_of (JournalFull entries awaited places) =
    figure (codes "entries") (decimal entries) ++ figure (codes "awaited") (decimal awaited)
    ++ figure (codes "places") (decimal places)
figures_of (BucketEmpty credit) = figure (codes "thousandths") (decimal credit)
figures_of (Expired expiry clock) = figure (codes "expiry") (decimal expiry) ++ figure (codes "clock") (decimal clock)
figures_of (ConfigAmount amount) = figure (codes "amount") (decimal amount)
figures_of (OverCap amount cap) = figure (codes "amount") (decimal amount) ++ figure (codes "cap") (decimal cap)
figures_of (BelowFee price fee) = figure (codes "price") (decimal price) ++ figure (codes "fee") (decimal fee)
figures_of (OverNextCap to price cap amount greatest) =
    figure (codes "amount") (decimal price) ++ figure (codes "cap") (decimal cap)
figures_of (ExpiresOnward expiry clock) = figure (codes "expiry") (decimal expiry) ++ figure (codes "clock") (decimal clock)
figures_of (OverCeiling balance held amount ceiling) =
    money_figures balance held amount ++ figure (codes "ceiling") (decimal ceiling)
figures_of (OverCredit to balance held price credit) =
    money_figures balance held price ++ figure (codes "credit") (decimal credit)
figures_of (TooManyHeld awaited) = figure (codes "awaited") (decimal awaited)
figures_of _ = []

-- the next peer, where a finding names it
abbrev pub next_peer : Finding → Option ℕ
next_peer (NoRate to) = Some to
next_peer (OverNextCap to price cap amount greatest) = Some to
next_peer (OverCredit to balance held price credit) = Some to
next_peer (GoesOn hold to price expiry) = Some to
next_peer _ = None

-- the line with its name
abbrev pub next_line : Option (List ℕ) → List ℕ
next_line None = []
next_line (Some name) = figure (codes "next peer") name

-- ---- answers

-- the lines of a packet that goes on, with its outgoing amount and expiry
unfoldable pub onward_lines : ℕ → ℕ → List ℕ
onward_lines amount expiry =
    codes "now: it goes on\n" ++ figure (codes "amount") (decimal amount) ++ figure (codes "expiry") (decimal expiry)

-- the book's answer
abbrev pub answer_line : Verdict → List ℕ
answer_line Unknown = codes "now: 401\n"
answer_line NoRoom = codes "now: T03, which is not recorded\n"
answer_line (Refuse code amounts) = codes "now: " ++ code_of code ++ 10 ∷ []
answer_line Fulfil = codes "now: fulfilled with the configuration\n"
answer_line (Forward hold peer amount expiry) = onward_lines amount expiry
answer_line Relay = []

-- the line of the question
abbrev pub asked_line : Question → List ℕ
asked_line q = q.peer ++ codes " sends " ++ decimal q.amount ++ codes " to " ++ q.destination ++ 10 ∷ []

-- an explanation: the question, the checks up to the deciding one, the numbers that it compared, and the book's answer
unfoldable pub explained : Question → Finding → Option (List ℕ) → List ℕ
explained q finding next =
    asked_line q ++ passed_upto (passed_before finding) ++ deciding_line finding ++ figures_of finding ++ next_line next
    ++ answer_line (verdict_of finding)

-- ---- a book

-- the check that decides at that moment on a packet of the peer with that name, if there is one
abbrev pub finding_for : State → Question → ℕ → Option Peer → Finding
finding_for book q now None = NoPeer
finding_for book q now (Some p) = finding_of book p.terms.token (key_asked q) now

abbrev pub finding_asked : State → Question → ℕ → Finding
finding_asked book q now = finding_for book q now (peer_named q.peer (network_of book).peers)

-- the name of the peer that a finding names
abbrev pub next_name : State → Finding → Option (List ℕ)
next_name book finding =
    option_and_then (λ n. option_map (λ p. p.terms.name) (peer_numbered n (network_of book).peers)) (next_peer finding)

-- the explanation of a packet that a book gives at a moment
abbrev pub explanation : State → Question → ℕ → List ℕ
explanation book q now = explained q (finding_asked book q now) (next_name book (finding_asked book q now))
