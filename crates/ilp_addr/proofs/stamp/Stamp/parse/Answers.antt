use Rattle.std.proofs.Common.{sym, ◌∙◌}
use Rattle.ilp_addr.proofs.Digits.{no_digits, found_where_read, timestamp_is_read}
use Rattle.ilp_addr.proofs.stamp.Stamp.parse.Goals as goal

pub returns-then-not-are_digits-clause-exact : goal.returns-then-not-are_digits-clause-exact
returns-then-not-are_digits-clause-exact c = sym (no_digits c.args.text.now (sym c.are_digits.ensures ∙ c.if-not-are_digits.true))

pub returns-then-not-are_digits-clause-only : goal.returns-then-not-are_digits-clause-only
returns-then-not-are_digits-clause-only c = λ h.
    sym (no_digits c.args.text.now (sym c.are_digits.ensures ∙ c.if-not-are_digits.true)) ∙ timestamp_is_read c.args.text.now h

pub returns-clause-found : goal.returns-clause-found
returns-clause-found c = found_where_read c.args.text.now c.parse_digits.result c.parse_digits.ensures.exact

pub returns-clause-only : goal.returns-clause-only
returns-clause-only c = λ h. c.parse_digits.ensures.exact ∙ timestamp_is_read c.args.text.now h
