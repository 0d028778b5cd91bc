use Rattle.std.proofs.Common.{◌≡◌, ℕ, List, true, sym, subst}
use Rattle.std.specs.List.{All}
use Rattle.statements.specs.ReadBack.{IsRate}
use Rattle.common_types.specs.Token.{is_token}
use Rattle.book_log.specs.OneBase.{IsPeerStart}
use Rattle.book_log.proofs.kept.is_start.Goals as goal

pub returns : goal.returns
returns c = (
  λ yes. record {
    own = c.own_is_kept.ensures;
    numbers = c.numbers_are_kept.ensures;
    peers = subst (All (IsPeerStart c.args.opening.now.clock)) c.peers.ensures.value (c.are_peer_starts.ensures.0 yes);
    rates = subst (All IsRate) c.rates.ensures.value c.rates_are_kept.ensures;
    admin = subst (λ (t : List ℕ). is_token t ≡ true) c.as_bytes.ensures.value c.as_bytes.ensures.token;
  },
  λ start. c.are_peer_starts.ensures.1 (subst (All (IsPeerStart c.args.opening.now.clock)) (sym c.peers.ensures.value) start.peers),
)
