-- A remark, where something is so.
use Rattle.std.specs.Prelude.{Bool, None, Option, Some, false, true}
use Rattle.reports.specs.declared.report.Remark.{Remark}

abbrev pub remark_if : Bool → Remark → Option Remark
remark_if true remark = Some remark
remark_if false remark = None
