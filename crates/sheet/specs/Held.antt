-- What the code holds of a sheet on its way from readings to lines. Definitions only.
use Rattle.std.specs.Prelude.{List, ℤ, pos}
use Rattle.arrayvec.specs.ArrayVec.{ArrayVec}
use Rattle.sheets.specs.Report.{float_of}
use Rattle.sheet_reader.specs.declared.SheetRead.{SheetRead}
use Rattle.tracker.specs.declared.Settings.{Settings}

-- what the tracker is handed
abbrev pub settings_held : SheetRead → Settings
settings_held d = record { step = float_of (pos d.step); process = float_of (pos d.process); measurement = float_of (pos d.measurement) }

abbrev pub metres_held : List ℤ → ArrayVec ℤ
metres_held zs = record { items = zs }
