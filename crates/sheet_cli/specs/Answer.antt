-- The answer to one line.
use Rattle.std.{specs.Prelude.{◌≡◌, ◌≢◌, ℕ, ℤ, ◌<◌, ◌≤◌, nat_lt, Bool, true, false, List, [], ◌++◌, length, map, codes, decimal, Option, Some, None, Result, Ok, Err, if◌then◌else◌}, specs.List.{flat_map}, specs.Option.{option_map}, specs.Map.{keys_of}, specs.Str.{IsUtf8, chars}}
use Rattle.apl_expr.{specs.declared.fault.LineFault.TheVariants.{Syntax, Limit}, specs.Lines.{Meaning, Nothing, Define, Data, Cell, Row, Erase, Show, Names, Cost, Csv, Open, Step, Commit, Drop}, specs.Answers.{IsAnswered, IsReadAs}}
use Rattle.arrays_core.{specs.Arrays.{ArrayValue}, specs.declared.fault.Fault.{Fault}, specs.declared.item.Item.{Item}, specs.declared.item.ItemType.{ItemType}, specs.declared.item.ItemType.TheVariants.{Nums, Chars}}
use Rattle.array_text.{specs.Text.{line_end, item_number, array_text, fault_text}, specs.Tables.{table_text}}
use Rattle.formula_core.specs.Meaning.{eval}
use Rattle.sheet_recalc.{specs.Names.{Binding, binding}, specs.Meaning.{val}, specs.Changes.{SheetChange, Accepts, Refuses}, specs.Costs.{HasCost}, specs.declared.refusal.Refusal.{Refusal}}
use Rattle.sheet_desk.specs.Desk.{SlotValue, DeskValue, IsEvent}
use Rattle.sheet_cli.specs.Lines.{longest_line, strip_cr}
use Rattle.sheet_recalc.specs.Names as sheet
use Rattle.sheet_recalc.specs.Changes as change
use Rattle.sheet_recalc.specs.declared.refusal.Refusal.TheVariants as why
use Rattle.sheet_desk.specs.Desk as desk

-- an open change: whether another change was made since, and the number of steps left
pub record OpenChange : Type 0 where
  pub change : SheetChange
  pub is_stale : Bool
  pub left : ℕ

-- the state of a run between lines: the bindings of the names, the cost of the last accepted change, and the slots for open changes
pub record State : Type 0 where
  pub names : sheet.Names
  pub cost : ℕ
  pub slots : List (Option OpenChange)

-- the state of an open change; no answer depends on the number of items computed for it
abbrev pub open_change : SlotValue → OpenChange
open_change s = record { change = s.change; is_stale = s.is_stale; left = s.left }

-- the state of a run in a desk
abbrev pub state_of : DeskValue → State
state_of d = record { names = d.names; cost = d.cost; slots = map (option_map open_change) d.slots }

-- the open change after another change was made
abbrev pub as_stale : OpenChange → OpenChange
as_stale o = record { change = o.change; is_stale = true; left = o.left }

-- the line that a refusal prints
abbrev pub refusal_text : Refusal → List ℕ
refusal_text (why.Cycle names) = codes "CYCLE\n"
refusal_text why.NotFound = codes "NOT FOUND\n"
refusal_text why.NotData = codes "NOT DATA\n"
refusal_text why.Rank = codes "RANK ERROR\n"
refusal_text why.Length = codes "LENGTH ERROR\n"
refusal_text why.Index = codes "INDEX ERROR\n"
refusal_text why.Domain = codes "DOMAIN ERROR\n"
refusal_text why.Limit = codes "LIMIT ERROR\n"
refusal_text why.SheetFull = codes "SHEET FULL\n"
refusal_text why.NoMemory = codes "NO MEMORY\n"
refusal_text why.Stale = codes "STALE\n"
refusal_text why.NotReady = codes "NOT READY\n"
refusal_text why.NoSlot = codes "NO SLOT\n"
refusal_text why.SlotInUse = codes "SLOT IN USE\n"
refusal_text (why.Fault f) = fault_text f

-- the text of a value or of its error
abbrev pub shown_text : Result ArrayValue Fault → List ℕ
shown_text (Ok a) = array_text a
shown_text (Err f) = fault_text f

-- the names, each on its own line
abbrev pub names_text : List (List ℕ) → List ℕ
names_text names = flat_map (λ name. name ++ line_end) names

-- there are items, and they are characters
abbrev pub are_characters : ItemType → List Item → Bool
are_characters Nums items = false
are_characters Chars items = nat_lt 0 (length items)

-- a count in decimal digits, on its own line
abbrev pub cost_text : ℕ → List ℕ
cost_text cost = decimal cost ++ line_end

-- an array as a table; refused if it has more than two axes, or items that are characters
abbrev pub array_table : ArrayValue → List ℕ
array_table a =
    if nat_lt 2 (length a.shape) then refusal_text why.Rank
    else if are_characters a.item_type a.items then refusal_text why.Domain
    else table_text a.shape (map item_number a.items)

-- a bound name's array as a table, or the text of its error; NOT FOUND if the name is not bound
abbrev pub shown_table : Option Binding → Result ArrayValue Fault → List ℕ
shown_table None shown = refusal_text why.NotFound
shown_table (Some b) (Ok a) = array_table a
shown_table (Some b) (Err f) = fault_text f

-- the text of this refusal, which is not want of memory
abbrev pub IsRefusalText : Refusal → List ℕ → Type 0
IsRefusalText cause text = (text ≡ refusal_text cause) × (cause ≢ why.NoMemory)

-- an edit is accepted: it prints nothing, its cost is stored, and every open change becomes stale. Or it is refused for a reason other than memory:
-- it prints that and changes nothing
pub data IsChangeAnswered : State → SheetChange → List ℕ → State → Type 0 where
  accepted : {old new : State} {edit : SheetChange} → Accepts old.names edit new.names → HasCost old.names edit new.names new.cost → new.slots ≡ map (option_map as_stale) old.slots → IsChangeAnswered old edit [] new
  refused : {old : State} {edit : SheetChange} (cause : Refusal) → Refuses old.names edit cause → cause ≢ why.NoMemory → IsChangeAnswered old edit (refusal_text cause) old

-- the text of a desk's answer: empty if the event is done, the number of steps left, or the refusal
abbrev pub IsPrintedFor : desk.Answer → List ℕ → Type 0
IsPrintedFor desk.Done text = text ≡ []
IsPrintedFor (desk.Left n) text = text ≡ cost_text n
IsPrintedFor (desk.Shown outcome) text = ⊥
IsPrintedFor (desk.Refused cause) text = IsRefusalText cause text

-- some desk with the old state answers the event with this text and has the new state afterwards
pub record IsAsked (old : State) (event : desk.Event) (text : List ℕ) (new : State) : Type 0 where
  pub before : DeskValue
  pub after : DeskValue
  pub answer : desk.Answer
  pub event_is : IsEvent before event answer after
  pub before_is : state_of before ≡ old
  pub after_is : state_of after ≡ new
  pub text_is : IsPrintedFor answer text

-- the change that a request asks for, if it does
abbrev pub change_meant : Meaning → Option SheetChange
change_meant (Define n t) = Some (change.Define n t)
change_meant (Data n t) = Some (change.Store n t)
change_meant (Cell n ps l) = Some (change.SetCell n ps l)
change_meant (Row n l) = Some (change.AddRow n l)
change_meant (Erase n) = Some (change.Erase n)
change_meant m = None

-- this change is opened in the slot of this number
abbrev pub IsOpening : State → ℤ → Option SheetChange → List ℕ → State → Type 0
IsOpening old k None text new = ⊥
IsOpening old k (Some edit) text new = IsAsked old (desk.Open k edit) text new

-- the request is executed with this text and this new state
abbrev pub IsCarriedOut : State → Meaning → List ℕ → State → Type 0
IsCarriedOut old Nothing text new = (text ≡ []) × (new ≡ old)
IsCarriedOut old (Define n t) text new = IsChangeAnswered old (change.Define n t) text new
IsCarriedOut old (Data n t) text new = IsChangeAnswered old (change.Store n t) text new
IsCarriedOut old (Cell n ps l) text new = IsChangeAnswered old (change.SetCell n ps l) text new
IsCarriedOut old (Row n l) text new = IsChangeAnswered old (change.AddRow n l) text new
IsCarriedOut old (Erase n) text new = IsChangeAnswered old (change.Erase n) text new
IsCarriedOut old (Show t) text new = (text ≡ shown_text (eval t (val old.names))) × (new ≡ old)
IsCarriedOut old Names text new = (text ≡ names_text (keys_of old.names)) × (new ≡ old)
IsCarriedOut old Cost text new = (text ≡ cost_text old.cost) × (new ≡ old)
IsCarriedOut old (Csv n) text new = (text ≡ shown_table (binding old.names n) (val old.names n)) × (new ≡ old)
IsCarriedOut old (Open k m) text new = IsOpening old k (change_meant m) text new
IsCarriedOut old (Step k) text new = IsAsked old (desk.Step k) text new
IsCarriedOut old (Commit k) text new = IsAsked old (desk.Commit k) text new
IsCarriedOut old (Drop k) text new = IsAsked old (desk.Drop k) text new

-- the answer to characters: a syntax error, a limit error, or the answer to their request
pub data IsTextAnswer : State → List ℕ → List ℕ → State → Type 0 where
  no_line : {old : State} {cs : List ℕ} → IsAnswered cs (Err Syntax) → IsTextAnswer old cs (codes "SYNTAX ERROR\n") old
  too_large : {old : State} {cs : List ℕ} → IsAnswered cs (Err Limit) → IsTextAnswer old cs (codes "LIMIT ERROR\n") old
  carried_out : {old new : State} {cs text : List ℕ} (m : Meaning) → IsReadAs cs m → IsCarriedOut old m text new → IsTextAnswer old cs text new

-- the answer to a line, and the state after it
pub data IsAnswer : State → List ℕ → List ℕ → State → Type 0 where
  too_long : {old : State} {line : List ℕ} → longest_line < length (strip_cr line) → IsAnswer old line (codes "LINE TOO LONG\n") old
  not_text : {old : State} {line : List ℕ} → length (strip_cr line) ≤ longest_line → (IsUtf8 (strip_cr line) → ⊥) → IsAnswer old line (codes "NOT TEXT\n") old
  of_text : {old new : State} {line answer : List ℕ} → length (strip_cr line) ≤ longest_line → IsUtf8 (strip_cr line) → IsTextAnswer old (chars (strip_cr line)) answer new → IsAnswer old line answer new
