use Rattle.std.proofs.Common.{arith}
use Rattle.ilp_addr.proofs.Digits.{is_timestamp_true, is_timestamp_test, read_is_timestamp, timestamp_is_read}
use Rattle.ilp_addr.proofs.OneText.{text_has_moment, moment_is_back, is_text_of_moment, moment_bound}
use Rattle.ilp_addr.proofs.laws.timestamps.Goals as goal

pub returns : goal.returns
returns c = record {
  is_timestamp_decides = λ text. (is_timestamp_true text, is_timestamp_test text);
  read_is_timestamp = read_is_timestamp;
  timestamp_is_read = timestamp_is_read;
  none_later = moment_bound;
  timestamp_of_is_one = λ m low. (text_has_moment m (omega arith)).0;
  timestamp_of_names = λ m low. (text_has_moment m (omega arith)).1;
  timestamp_of_is_back = moment_is_back;
  timestamp_of_is_unique = is_text_of_moment;
}
