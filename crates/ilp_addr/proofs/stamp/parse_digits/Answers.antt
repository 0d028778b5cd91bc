use Rattle.std.proofs.Common.{◌≡◌, ℕ, FitsSigned, w32, to_z-of_z, rules, refl, sym, ap, ◌∙◌, Ok, Result}
use Rattle.std.specs.Option.{is_some}
use Rattle.ilp_addr.specs.declared.fault.AddrFault.{AddrFault}
use Rattle.ilp_addr.specs.Timestamp.{instant_of, moment_of}
use Rattle.ilp_addr.proofs.Digits.{no_date, no_time, is_read}
use Rattle.ilp_addr.proofs.stamp.parse_digits.Goals as goal

pub returns-in_default-clause-exact : goal.returns-in_default-clause-exact
returns-in_default-clause-exact c = sym (no_time c.args.text.now c.told-text c.requires (sym c.in_default.ensures'.found))

pub returns-in_default-2-clause-exact : goal.returns-in_default-2-clause-exact
returns-in_default-2-clause-exact c = sym (no_date c.args.text.now c.told-text c.requires (sym c.day_number_of.ensures.found ∙ ap is_some c.in_default.is-0))

pub returns-clause-exact : goal.returns-clause-exact
unfolding moment_of instant_of
returns-clause-exact c =
    let text = c.args.text.now in
    let day = c.in-Some-Some.ensures.value in
    let millis = c.in-Some-Some.ensures'.value in
    let read = is_read text c.told-text c.requires (sym c.in-Some-Some.ensures.found) (sym c.in-Some-Some.ensures'.found) in
    let fits : FitsSigned w32 c.in-Some-Some.day = search rules in
    let near : c.nearest.result ≡ moment_of text = (simp to_z-of_z at c.nearest.ensures.value) ∙ rw (day, millis) refl in
    ap (λ (n : ℕ). let r : Result ℕ AddrFault = Ok n in r) near ∙ sym read
