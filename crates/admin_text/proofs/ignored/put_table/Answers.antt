use Rattle.std.specs.Map.Iter.{deref_pair}
use Rattle.std.proofs.lemmas.Map.Iter.{rest_all, rest_more}
use Rattle.admin_text.specs.Ignored.{table_place}
use Rattle.admin_text.specs.IgnoredKeys.{seen}
use Rattle.admin_text.proofs.IgnoredWalks.{table_end, table_step}
use Rattle.admin_text.proofs.ignored.put_table.Goals as goal

pub loop-name-preserved : goal.loop-name-preserved
loop-name-preserved c =
    table_step c.args.version (table_place c.args.spot) c.loop-name.name-iterator c.next.new.self c.in-Some.name.now c.in-Some.value.now c.as_str.result.now (seen c.loop-name.found.items) (seen c.put_key.new.found.items) _
    (rest_more deref_pair c.loop-name.name-iterator c.next.new.self c.next.result (c.in-Some.name, c.in-Some.value) c.in-Some.is c.next.ensures.steps)
    c.as_str.ensures.value c.in_ok-put_key.ensures c.loop-name.invariant

pub returns : goal.returns
returns c =
    table_end c.args.version (table_place c.args.spot) c.loop-name.name-iterator (seen c.loop-name.found.items) _
    (rest_all deref_pair c.loop-name.name-iterator c.next.new.self c.next.result c.in-None.is c.next.ensures.steps)
    c.loop-name.invariant
