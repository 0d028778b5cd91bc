use Rattle.std.proofs.Common.{◌≡◌, true, rules}
use Rattle.common_types.specs.Numbers.{is_between}
use Rattle.common_types.specs.Words.{words_of}
use Rattle.admin_text.proofs.Spaces.{also_after, then_ok}
use Rattle.admin_text.proofs.fields.peer.put_peer_terms.Goals as goal

pub returns : goal.returns
returns c =
    let text = words_of c.args.out.now.items in
    let name = c.in_ok-put_name.ensures in
    let role = c.in_ok-put_role.ensures in
    let token = c.in_ok-put_token.ensures in
    let target = c.in_ok-put_target.ensures in
    let asset = c.in_ok-put_asset.ensures in
    let limits = c.in_ok-put_limits.ensures in
    let scale : is_between 0 255 c.args.terms.now.scale ≡ true = search rules in
    let two = also_after text _ _ name.0 role.0 in
    let three = also_after text _ _ two token.0 in
    let four = also_after text _ _ three target.0 in
    let five = also_after text _ _ four asset.0 in
    let six = also_after text _ _ five c.in_ok-put_number.ensures in
    let seven = also_after text _ _ six limits.0 in
    then_ok c.put_bucket.result _ _ c.put_bucket.ensures (λ bucket. (
      also_after text _ _ seven bucket.0,
      (name.1, (role.1, (token.1, (target.1, (asset.1, (scale, (limits.1, (bucket.1, tt)))))))),
    ))
