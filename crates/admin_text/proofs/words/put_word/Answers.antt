use Rattle.admin_text.proofs.Spaces.{one_more}
use Rattle.admin_text.proofs.words.put_word.Goals as goal

pub returns : goal.returns
returns c =
    one_more c.args.out.now.items c.push.new.self.items c.extend_from_slice.new.self.items c.args.word.now c.requires c.in_ok-push.ensures.items c.in_ok-extend_from_slice.ensures.items
