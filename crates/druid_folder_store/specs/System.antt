-- What a folder of the operating system makes of the system's answers.
use Rattle.std.specs.Prelude.{◌≡◌, ◌≢◌, ◌↔◌, Bool, false, IsTrue, Option, Some, None, Result, Ok, Err, IsOkAnd}
use Rattle.std.specs.Fs.{file_type, IsFile}
use Rattle.std.specs.declared.fs.Metadata.{Metadata}
use Rattle.std.specs.IoError.{error_kind}
use Rattle.std.specs.declared.io.Error.{Error}
use Rattle.std.specs.declared.io.ErrorKind.TheVariants.{NotFound, InvalidFilename, OutOfMemory}
use Rattle.druid_folder.specs.declared.fault.StoreFault.{StoreFault}
use Rattle.druid_folder.specs.declared.fault.StoreFault.TheVariants.{Device, Memory}

-- the system has no such file
abbrev pub IsMissing : Error → Type 0
IsMissing e = error_kind e ≡ NotFound

-- what a status answers to the question whether a file is there: a failure is reported, unless there is nothing of the name
abbrev pub ReportsFile : Result Metadata Error → Result Bool Error → Type 0
ReportsFile (Ok status) answer = IsOkAnd answer (λ is. IsTrue is ↔ IsFile (file_type status))
ReportsFile (Err e) answer = (IsMissing e → answer ≡ Ok false) × ((IsMissing e → ⊥) → answer ≡ Err e)

-- what a removal answers: a failure is reported, unless there is nothing of the name
abbrev pub ReportsRemoved : Result Unit Error → Result Unit Error → Type 0
ReportsRemoved (Ok done) answer = answer ≡ Ok done
ReportsRemoved (Err e) answer = (IsMissing e → answer ≡ Ok tt) × ((IsMissing e → ⊥) → answer ≡ Err e)

-- what an entry answers: a failure is reported, unless the name is no text
abbrev pub ReportsEntry : {T : Type 0} → Result T Error → Result (Option T) Error → Type 0
ReportsEntry (Ok entry) answer = answer ≡ Ok (Some entry)
ReportsEntry (Err e) answer =
    (error_kind e ≡ InvalidFilename → answer ≡ Ok None) × (error_kind e ≢ InvalidFilename → answer ≡ Err e)

-- what a call of the system answers, as the folder's answer: a failure is out of memory or the device's
abbrev pub ReportsFault : {T : Type 0} → Result T Error → Result T StoreFault → Type 0
ReportsFault (Ok x) answer = answer ≡ Ok x
ReportsFault (Err e) answer =
    (error_kind e ≡ OutOfMemory → answer ≡ Err Memory) × (error_kind e ≢ OutOfMemory → answer ≡ Err Device)
