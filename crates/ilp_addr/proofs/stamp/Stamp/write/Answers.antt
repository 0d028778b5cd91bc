use Rattle.std.proofs.Common.{◌∙◌}
use Rattle.ilp_addr.proofs.OneText.{text_of_date}
use Rattle.ilp_addr.proofs.stamp.Stamp.write.Goals as goal

pub returns : goal.returns
returns c =
    let d = c.date_of-year.result in
    c.copy_from_slice.ensures.after ∙ c.calendar_text-text.ensures ∙ text_of_date c.args.moment d.0 d.1 d.2 c.date_of-year.ensures.date c.date_of-year.ensures.number
