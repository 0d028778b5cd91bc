use Rattle.replay_text.proofs.Eight.{past_at}
use Rattle.replay_text.proofs.numbers.past_digits.Goals as goal

pub returns : goal.returns
returns c = λ i lt. past_at 8 c.args.chunk.now i c.told-chunk lt
