use Rattle.admin_text.proofs.Spaces.{url_spaceless, target_token_spaceless}
use Rattle.admin_text.proofs.fields.target.put_target.Goals as goal

pub put_word-requires : goal.put_word-requires
put_word-requires c = rw c.url.ensures.value (url_spaceless c.args.target.now c.url.ensures.target)

pub put_word-requires-2 : goal.put_word-requires-2
put_word-requires-2 c = rw c.token.ensures.value (target_token_spaceless c.args.target.now c.url.ensures.target)
