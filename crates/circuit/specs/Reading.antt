-- What a text is read as: the nets of a circuit and their names, or a refusal with its line.
use Rattle.std.specs.Prelude.{ℕ, ◌+◌, Bool, cond, List, [], ◌∷◌, ◌++◌, length, Some, None, Ok, Err, Option, Result, ◌==◌, nat_lt}
use Rattle.text.specs.declared.class.Class.TheVariants.{Feed}
use Rattle.text.specs.Cut.{cut}
use Rattle.circuit.specs.declared.fault.ReadFault.{ReadFault}
use Rattle.circuit.specs.declared.fault.Refusal.{Refusal}
use Rattle.circuit.specs.declared.fault.Refusal.TheVariants.{TextTooLong, TooManyLines, LineOpen, NextUnknown}
use Rattle.circuit.specs.declared.nets.Net.{Net}
use Rattle.circuit.specs.declared.nets.NetKind.{NetKind}
use Rattle.circuit.specs.declared.nets.NetKind.TheVariants.{Latch}
use Rattle.circuit.specs.declared.nets.Start.{Start}
use Rattle.circuit.specs.Faults.{fault}
use Rattle.circuit.specs.Judge.{Drafted, done, waits, Kept, judged}
use Rattle.circuit.specs.Names.{place_from}

abbrev pub and_then : {A B E : Type 0} → Result A E → (A → Result B E) → Result B E
and_then (Ok x) f = f x
and_then (Err e) f = Err e

-- a call that returned r and left x
abbrev pub outcome : {A U E : Type 0} → Result U E → A → Result A E
outcome (Ok u) x = Ok x
outcome (Err e) x = Err e

-- what the lines so far have given
pub record State : Type 0 where
  pub names : List (List ℕ)
  pub drafts : List Drafted

abbrev pub nothing : State
nothing = record { names = []; drafts = [] }

abbrev pub grown : State → Kept → State
grown s k = record { names = s.names ++ k.name ∷ []; drafts = s.drafts ++ k.draft ∷ [] }

-- a judged line, at its line's number
abbrev pub added : State → Result Kept Refusal → Result State ReadFault
added s (Ok k) = Ok (grown s k)
added s (Err e) = Err (fault e (length s.names + 1))

abbrev pub full : State → Bool
full s = length s.names == 256

-- one line that is closed
abbrev pub taken : State → List ℕ → Result State ReadFault
taken s l = cond (full s) (Err (fault TooManyLines (length s.names + 1))) (added s (judged s.names l))

-- what stands after the last line feed
abbrev pub closing : State → List ℕ → Result State ReadFault
closing s [] = Ok s
closing s (b ∷ bs) = cond (full s) (Err (fault TooManyLines (length s.names + 1))) (Err (fault LineOpen (length s.names + 1)))

-- closed lines and what follows them
abbrev pub gather : State → List (List ℕ) → List ℕ → Result State ReadFault
gather s [] t = closing s t
gather s (l ∷ ls) t = and_then (taken s l) (λ n. gather n ls t)

abbrev pub gathered : State → List ℕ → Result State ReadFault
gathered s text = gather s (cut Feed text).closed (cut Feed text).tail

-- a latch's next is looked up among all names
abbrev pub latched : ℕ → Start → Option Net → Result NetKind ReadFault
latched n s None = Err (fault NextUnknown n)
latched n s (Some x) = Ok (Latch x s)

abbrev pub settled : List (List ℕ) → ℕ → Drafted → Result NetKind ReadFault
settled ns n (done k) = Ok k
settled ns n (waits a s) = latched n s (place_from 0 a ns)

-- the nets of the drafts, after those that are settled
abbrev pub resolve : List (List ℕ) → List NetKind → List Drafted → Result (List NetKind) ReadFault
resolve ns ks [] = Ok ks
resolve ns ks (d ∷ ds) = and_then (settled ns (length ks + 1) d) (λ k. resolve ns (ks ++ k ∷ []) ds)

-- a circuit with its names
pub record Named : Type 0 where
  pub names : List (List ℕ)
  pub nets : List NetKind

abbrev pub named : List (List ℕ) → List NetKind → Named
named ns ks = record { names = ns; nets = ks }

abbrev pub reading : List ℕ → Result Named ReadFault
reading text =
    cond (nat_lt 16384 (length text)) (Err (fault TextTooLong 0))
    (and_then (gathered nothing text) (λ s. and_then (resolve s.names [] s.drafts) (λ ks. Ok (named s.names ks))))
