-- What a journal on disk begins with: the secrets and the opening of each tenant.
use Rattle.std.specs.Prelude.{ℕ, ◌≡◌, List, [], ◌∷◌, ◌++◌, codes, map, Result, Ok, Err}
use Rattle.std.specs.Fmt.{decimal}
use Rattle.std.specs.List.{All, flat_map}
use Rattle.common_types.specs.declared.read_error.ReadError.{ReadError}
use Rattle.common_types.specs.declared.read_error.ReadError.TheVariants.{Memory, Fault}
use Rattle.route_table.specs.declared.route.Route.{Route}
use Rattle.sha2.specs.Sha256.{sha256}
use Rattle.statements.specs.ReadBack.{IsRouteWritable}
use Rattle.statements.specs.Statement.{AreRoutesOf, line, opening_text}
use Rattle.tenant_core.specs.State.{State, opened}
use Rattle.tenant_core.specs.declared.peer.Peer.{Peer}
use Rattle.book_log.specs.Lines.{secrets_of}
use Rattle.book_log.specs.Sums.{IsTextTaken, sum_line}
use Rattle.book_log.specs.declared.base.TenantStart.{TenantStart}
use Rattle.book_log.specs.declared.reopening.JournalFault.{JournalFault}
use Rattle.book_log.specs.declared.reopening.JournalFault.TheVariants.{Base, Limit, Log}

-- a peer's secrets, under its number
unfoldable pub secret_line : Peer → List ℕ
secret_line p = line (codes "secret") (decimal p.number ∷ secrets_of p.terms)

-- the token of the operator's commands
unfoldable pub admin_line : List ℕ → List ℕ
admin_line token = line (codes "admin") (token ∷ [])

-- a tenant: its secrets, and its opening as a statement has it, with these routes
unfoldable pub start_text : List Route → TenantStart → List ℕ
start_text routes s = flat_map secret_line s.opening.network.peers ++ admin_line s.admin ++ opening_text routes s.opening

-- tenants, one after another, with their routes in any order
abbrev pub AreStarts : List ℕ → List TenantStart → Type 0
AreStarts text [] = text ≡ []
AreStarts text (s ∷ starts) =
    (routes : List Route) × (others : List ℕ) × AreRoutesOf s.opening.network.routes routes × All IsRouteWritable routes
    × (text ≡ start_text routes s ++ others) × AreStarts others starts

-- the first line says which form of text it is
unfoldable pub base_version : List ℕ
base_version = codes "journal 1\n"

-- the text of these tenants, with its sum
pub record IsBase (text : List ℕ) (starts : List TenantStart) (sum : List ℕ) : Type 0 where
  pub tenants : List ℕ
  pub are : AreStarts tenants starts
  pub sum_is : sum ≡ sha256 (base_version ++ tenants)
  pub written : text ≡ base_version ++ tenants ++ sum_line sum

-- the states in which nothing has happened since
abbrev pub states_of : List TenantStart → List State
states_of starts = map (λ s. opened s.opening) starts

-- the tokens of their operators
abbrev pub admins_of : List TenantStart → List (List ℕ)
admins_of starts = map (λ s. s.admin) starts

-- the books are those of the base's tenants, after the lines of the log
pub record AreReopened (base log : List ℕ) (books : List State) : Type 0 where
  pub starts : List TenantStart
  pub first : List ℕ
  pub based : IsBase base starts first
  pub taken : IsTextTaken first log (states_of starts) books

-- a fault of the log was found
abbrev pub HasLogFault : {V : Type 0} → Result V (ReadError JournalFault) → Type 0
HasLogFault (Ok v) = ⊥
HasLogFault (Err (Fault (Log f))) = Unit {0}
HasLogFault (Err (Fault (Base f))) = ⊥
HasLogFault (Err (Fault (Limit tenant f))) = ⊥
HasLogFault (Err Memory) = ⊥
