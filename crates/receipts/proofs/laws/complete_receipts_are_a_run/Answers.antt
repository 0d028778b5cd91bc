use Rattle.std.proofs.Common.{[], ◌∷◌, refl, arith}
use Rattle.receipts.proofs.Causes.{FrameLaws}
use Rattle.receipts.proofs.Runs.{complete_are_run}
use Rattle.receipts.proofs.laws.complete_receipts_are_a_run.Goals as goal

pub returns : goal.returns
returns c =
    let frames : FrameLaws = record {
      lengths = c.lengths.ensures;
      addresses = c.addresses.ensures;
      timestamps = c.timestamps.ensures;
      prepares = c.each_prepare_is_read.ensures;
      fulfills = c.written_is_read_back.ensures.fulfills;
      short = c.written_frames_are_short.ensures.fulfills;
      reject = c.written_is_read_back.ensures.rejects (70 ∷ 48 ∷ 48 ∷ []) [] [] [] refl (omega arith)
          (c.written_frames_are_short.ensures.rejects (70 ∷ 48 ∷ 48 ∷ []) [] [] [] refl (omega arith));
      reject_short = c.written_frames_are_short.ensures.rejects (70 ∷ 48 ∷ 48 ∷ []) [] [] [] refl (omega arith);
    } in
    complete_are_run frames c.records_are_a_run.ensures
