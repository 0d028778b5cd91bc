use Rattle.admin_text.proofs.Spaces.{name_spaceless}
use Rattle.admin_text.proofs.fields.names.put_name.Goals as goal

pub put_word-requires : goal.put_word-requires
put_word-requires c = name_spaceless c.as_bytes.result.now c.as_bytes.ensures.name
