-- It tells no files, so nothing is claimed of them.
use Rattle.std.proofs.Common.{◌≤◌, ◌^◌, refl, vec_len}
use Rattle.std.proofs.lemmas.Result.{IfOk-weaker}
use Rattle.xfs_files.proofs.file_library.FileLibraryLibrary.TheImpl.Goals as goal

pub file-tells : goal.file-tells
file-tells g c =
    record {
      bytes = IfOk-weaker c.result (λ bytes. vec_len bytes ≤ 2 ^ 38) _ (λ bytes small map told. cc) c.ensures.largest;
      missing = λ missing map told. cc;
      files = refl;
      cause = c.ensures.cause;
    }
