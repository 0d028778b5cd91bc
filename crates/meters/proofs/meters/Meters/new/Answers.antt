use Rattle.std.proofs.Common.{◌≡◌, ◌*◌, ◌∙◌, ap, replicate, rules}
use Rattle.atomic_table.specs.Table.{Me}
use Rattle.meters.specs.declared.rule.View.{View}
use Rattle.meters.specs.Counts.{word_of}
use Rattle.meters.proofs.Words.{at_place, kept_at_first, no_count}
use Rattle.meters.proofs.meters.Meters.new.Goals as goal

pub of_words-requires : goal.of_words-requires
of_words-requires c =
    let zeros : c.in_ok-words.words.items ≡ replicate (4 * c.args.tenants) 0 = search rules in
    kept_at_first c.args.tenants _ (c.as_slice.ensures.value ∙ zeros)

pub returns-clause-zero : goal.returns-clause-zero
returns-clause-zero c t k =
    ap (λ (m : Me (Unit {0}) View). at_place (word_of t k) m.0) c.in_ok-table.ensures.4 ∙ no_count 256 (word_of t k)
