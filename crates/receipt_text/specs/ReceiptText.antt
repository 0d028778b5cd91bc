-- The text of the receipts of all workers: a line for each worker, and after it one for each of its receipts. It has
-- no secret: as in a statement, the token and the target of an added peer are left out. So one text can be that of
-- several receipts.
use Rattle.std.specs.Prelude.{ℕ, List, [], ◌∷◌, ◌++◌, length, codes}
use Rattle.std.specs.Fmt.{decimal}
use Rattle.std.specs.List.{flat_map}
use Rattle.statements.specs.Statement.{number, record_line}
use Rattle.receipts.specs.Audits.{shown_record}
use Rattle.receipts.specs.declared.receipt.Receipt.{Receipt}

-- the first line says which form of text it is
unfoldable pub receipts_version_line : List ℕ
receipts_version_line = codes "receipts 1\n"

-- the tenant, the period and the number of the entry, and its record as a statement's line has it
unfoldable pub receipt_line : Receipt → List ℕ
receipt_line r = decimal r.tenant ++ number r.period ++ number r.number ++ 32 ∷ record_line (shown_record r)

-- how many receipts a worker has
unfoldable pub worker_line : List Receipt → List ℕ
worker_line list = codes "worker" ++ number (length list) ++ 10 ∷ []

-- the receipts of a worker, in its order
unfoldable pub worker_text : List Receipt → List ℕ
worker_text list = worker_line list ++ flat_map receipt_line list

-- the receipts of all workers
unfoldable pub receipts_text : List (List Receipt) → List ℕ
receipts_text lists = receipts_version_line ++ flat_map worker_text lists
