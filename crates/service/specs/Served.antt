-- What a service answers, and what it prints at the end.
use Rattle.std.specs.Prelude.{ℕ, zero, suc, List, [], ◌∷◌, ◌++◌, codes, slice_index_or, Option}
use Rattle.std.specs.Fmt.{decimal}
use Rattle.std.specs.List.{position}
use Rattle.std.specs.Str.{bytes_eq}
use Rattle.meters.specs.Seats.{TotalsState, total_of}
use Rattle.meters.specs.declared.kind.Kind.TheVariants as kind
use Rattle.http_link.specs.declared.request.RequestKind.{RequestKind}
use Rattle.http_link.specs.declared.request.RequestKind.TheVariants.{Ilp, Admin}

-- the number of the tenant of that name
abbrev pub tenant_named : List (List ℕ) → List ℕ → Option ℕ
tenant_named names name = position (λ known. bytes_eq known name) names

-- the text of the last answer: the slot's reply to a packet, or what was printed of a command
abbrev pub told_text : RequestKind → List ℕ → List ℕ → List ℕ
told_text Ilp reply printed = reply
told_text Admin reply printed = printed

-- the line of a tenant: how many packets and commands were answered with which status, and how often a peer gave no
-- answer
unfoldable pub served_line : List ℕ → ℕ → TotalsState → List ℕ
served_line name tenant totals =
    name ++ codes " 200 " ++ decimal (total_of tenant kind.Answered totals)
    ++ codes " 4xx " ++ decimal (total_of tenant kind.ClientError totals)
    ++ codes " 503 " ++ decimal (total_of tenant kind.Unavailable totals)
    ++ codes " link " ++ decimal (total_of tenant kind.LinkFault totals) ++ 10 ∷ []

-- the lines of the tenants below a number
abbrev pub lines_upto : ℕ → List (List ℕ) → TotalsState → List ℕ
lines_upto zero names totals = []
lines_upto (suc n) names totals = lines_upto n names totals ++ served_line (slice_index_or names n []) n totals
