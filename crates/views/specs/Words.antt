-- What words are to be.
use Rattle.std.specs.{Prelude.{ℕ, Option, Some, None, List, codes, if◌then◌else◌}, Str.bytes_eq}
use Rattle.views.specs.declared.explain.single.Shown.{Shown, TheVariants.{Admin, Completion, Descriptor, Status, Submission}}

-- what a word names that words are to be
abbrev pub shown_named : List ℕ → Option Shown
shown_named word =
    if bytes_eq word (codes "sqe") then Some Submission
    else if bytes_eq word (codes "admin") then Some Admin
    else if bytes_eq word (codes "cqe") then Some Completion
    else if bytes_eq word (codes "sgl") then Some Descriptor
    else if bytes_eq word (codes "status") then Some Status
    else None
