use Rattle.std.proofs.Common.{◌≡◌, ◌+◌, ◌-◌, ◌*◌, ◌%◌, ◌^◌, take, fold, true}
use Rattle.std.specs.List.{list_all}
use Rattle.common_types.specs.Numerals.{is_digit}
use Rattle.replay_text.proofs.numbers.low_value_after.Given as goal

abbrev pub invariant-loop-byte : goal.invariant-loop-byte
invariant-loop-byte l = record {
  digits : l.fine ≡ list_all is_digit (take l.byte-index l.word);
  value : l.fine ≡ true → l.value ≡ fold (λ n d. n * 10 + (d - 48)) l.fn.before (take l.byte-index l.word) % 2 ^ 64;
}
