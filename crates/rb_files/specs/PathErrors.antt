-- Failures by the system's errors. (This project's; the kinds of errors are the standard library's.)
use Rattle.std.specs.Prelude.{◌≡◌, Bool, true, false, IfSome, MatchOption, None, Some}
use Rattle.std.specs.IoError.{error_kind}
use Rattle.std.specs.declared.io.Error.{Error}
use Rattle.std.specs.declared.io.ErrorKind.{ErrorKind}
use Rattle.std.specs.declared.io.ErrorKind.TheVariants as kind
use Rattle.rb_report.specs.declared.check.failure.Failure.{Failure}
use Rattle.rb_report.specs.declared.check.failure.Failure.TheVariants as failure
use Rattle.rb_files.specs.declared.path_error.PathError.{PathError}

abbrev pub reading_failure : ErrorKind → Failure
reading_failure kind.NotFound = failure.NotFound
reading_failure kind.NotADirectory = failure.NotFound
reading_failure kind.PermissionDenied = failure.NoPermission
reading_failure kind.FilesystemLoop = failure.LinkLoop
reading_failure kind.OutOfMemory = failure.OutOfMemory
reading_failure _ = failure.NotRead

abbrev pub writing_failure : ErrorKind → Failure
writing_failure kind.OutOfMemory = failure.OutOfMemory
writing_failure _ = failure.NotWritten

-- if it has the system's error, the failure is that error's
abbrev pub IsOfReading : PathError → Type 0
IsOfReading t = IfSome t.cause (λ error. t.failure ≡ reading_failure (error_kind error))

-- why a path isn't opened: what the system said, or without a word of its that it is no regular file
abbrev pub IsOfOpening : PathError → Type 0
IsOfOpening t = MatchOption t.cause (t.failure ≡ failure.NoFile) (λ error. t.failure ≡ reading_failure (error_kind error))

-- a failure for which the system gave no cause
abbrev pub without_cause : Failure → PathError
without_cause f = record { failure = f; cause = None }

-- what the system said of a file that was to be written
abbrev pub of_writing : Error → PathError
of_writing error = record { failure = writing_failure (error_kind error); cause = Some error }

abbrev pub is_not_found : Failure → Bool
is_not_found failure.NotFound = true
is_not_found _ = false

-- nothing is at the path
abbrev pub is_missing : PathError → Bool
is_missing error = is_not_found error.failure
