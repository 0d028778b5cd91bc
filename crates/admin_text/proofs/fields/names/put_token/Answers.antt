use Rattle.admin_text.proofs.Spaces.{token_spaceless}
use Rattle.admin_text.proofs.fields.names.put_token.Goals as goal

pub put_word-requires : goal.put_word-requires
put_word-requires c = token_spaceless c.as_bytes.result.now c.as_bytes.ensures.token
