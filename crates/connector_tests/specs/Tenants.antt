-- The tenants of the services that tests make.
use Rattle.std.specs.Prelude.{ℕ, List, codes, Option, Some, None, if◌then◌else◌}
use Rattle.std.specs.Str.{bytes_eq}

-- acme is the first, and beta the second
abbrev pub tenant_named : List ℕ → Option ℕ
tenant_named name =
    if bytes_eq name (codes "acme") then Some 0 else (if bytes_eq name (codes "beta") then Some 1 else None)

-- the status that turns away a request with that token, if there is one
abbrev pub refused_by : List ℕ → Option ℕ
refused_by token =
    if bytes_eq token (codes "tok-Eve") then Some 401 else (if bytes_eq token (codes "tok-Nil") then Some 404 else None)
