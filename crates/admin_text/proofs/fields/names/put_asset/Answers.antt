use Rattle.admin_text.proofs.Spaces.{asset_spaceless}
use Rattle.admin_text.proofs.fields.names.put_asset.Goals as goal

pub put_word-requires : goal.put_word-requires
put_word-requires c = asset_spaceless c.as_bytes.result.now c.as_bytes.ensures.code
