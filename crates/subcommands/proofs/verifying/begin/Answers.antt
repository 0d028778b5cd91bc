use Rattle.std.proofs.Common.{◌≡◌, Some, slice_get, rules}
use Rattle.std.proofs.lemmas.Option.{slice_get_read}
use Rattle.subcommands.proofs.verifying.begin.Goals as goal

pub returns-in-Ok-clause-begins : goal.returns-in-Ok-clause-begins
returns-in-Ok-clause-begins g c = record {
  setup = c.in_ok-setup.setup;
  good = c.in_ok-setup.ensures;
  place = c.place_in-place.result;
  tenant = c.in-Some.tenant.now;
  there = search (rules, slice_get_read);
  chain = c.in-Ok.ensures.chain;
}
