-- Classes, kinds and privileges by their numbers, as programs and C have them.
use Rattle.std.specs.Prelude.{cond, ℕ, eqb, leb, Option, None, Some, option_and_then, option_map}
use Rattle.label.specs.Words.{bit}
use Rattle.monitor.specs.declared.FileKind.{FileKind}
use Rattle.monitor.specs.declared.FileKind.TheVariants.{Regular, Directory, Other}
use Rattle.monitor.specs.declared.ObjectClass.{ObjectClass}
use Rattle.monitor.specs.declared.ObjectClass.TheVariants.{File, Fifo, Process, MessageQueue, SharedMemory, Semaphore}
use Rattle.monitor.specs.declared.Privileges.{Privileges}
use Rattle.monitor.specs.declared.numbers.ObjectType.{ObjectType}

-- a class by its number, 0 to 5
unfoldable pub class_named : ℕ → Option ObjectClass
class_named n =
    cond (eqb n 0) (Some File)
    (cond (eqb n 1) (Some Fifo)
    (cond (eqb n 2) (Some Process)
    (cond (eqb n 3) (Some MessageQueue)
    (cond (eqb n 4) (Some SharedMemory)
    (cond (eqb n 5) (Some Semaphore)
    None)))))

-- a file's kind by its number, 0 to 2
unfoldable pub kind_named : ℕ → Option FileKind
kind_named k = cond (eqb k 0) (Some Regular) (cond (eqb k 1) (Some Directory) (cond (eqb k 2) (Some Other) None))

-- the kind of an object of a class: it counts only for a file
abbrev pub kind_in : ObjectClass → ℕ → Option FileKind
kind_in File k = kind_named k
kind_in Fifo k = Some Other
kind_in Process k = Some Other
kind_in MessageQueue k = Some Other
kind_in SharedMemory k = Some Other
kind_in Semaphore k = Some Other

abbrev pub object_type : ObjectClass → FileKind → ObjectType
object_type class kind = record { class = class; kind = kind }

-- what two numbers name: the class, and the kind, which counts only for a file
unfoldable pub type_named : ℕ → ℕ → Option ObjectType
type_named n k = option_and_then (λ class. option_map (object_type class) (kind_in class k)) (class_named n)

-- the privileges of a number, 0 to 7: bit 0 is the read override, 1 the write override, 2 relabel
unfoldable pub privileges_named : ℕ → Option Privileges
privileges_named n = cond (leb n 7) (Some (record { read = bit n 0; write = bit n 1; relabel = bit n 2 })) None
