use denote.Exit.{no}
use denote.Param.Send.{arg_send, param_send}
use Rattle.pm_file.proofs.Crossing.{real_disk_send}
use Rattle.pm_disk_cases.proofs.file_cases.files.disk_of.Goals as goal

pub is_sent-requires-send-T : goal.is_sent-requires-send-T
is_sent-requires-send-T c κs = param_send 0 _ (arg_send _ no _ real_disk_send)
