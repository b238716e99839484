-- What the lines so far say, found by looking back over them. Lists of lines and of what they say stand here with the
-- newest first.
use Rattle.std.specs.Prelude.{◌≡◌, ℕ, ◌+◌, Bool, true, false, List, [], ◌∷◌, ◌++◌, replicate, refl}
use Rattle.std.specs.List.{cons_option}
use Rattle.hs_records.specs.Plain.{Begin, Point, End}
use Rattle.hs_base.specs.declared.settings.TriggerRule.{TriggerRule}
use Rattle.hs_base.specs.declared.settings.AutoRule.{AutoRule}
use Rattle.hs_records.specs.declared.setting.Setting.TheVariants as settings
use Rattle.hs_workload.specs.Settings.{setting_in}
use Rattle.hs_workload.specs.Statements.{Statement, Put, Declare, Watch, Start, Operate, Finish, statement_of}
use Rattle.hs_records.specs.Validity.{operation_pieces}

-- the head so far
abbrev pub head_said : List Statement → List ℕ
head_said [] = []
head_said (Put setting number ∷ earlier) = head_said earlier ++ number ∷ []
head_said (_ ∷ earlier) = head_said earlier

-- what lines say, in a text whose version stands among them
abbrev pub said : List (List ℕ) → List Statement
said [] = []
said (line ∷ earlier) = cons_option (statement_of (setting_in (head_said (said earlier)) settings.Version) line) (said earlier)

-- the trigger ids declared so far
abbrev pub rules_said : List Statement → List TriggerRule
rules_said [] = []
rules_said (Declare rule ∷ earlier) = rules_said earlier ++ rule ∷ []
rules_said (_ ∷ earlier) = rules_said earlier

-- the autotriggers declared so far
abbrev pub autos_said : List Statement → List AutoRule
autos_said [] = []
autos_said (Watch number rule ∷ earlier) = autos_said earlier ++ rule ∷ []
autos_said (_ ∷ earlier) = autos_said earlier

-- how many clients have begun
abbrev pub clients_said : List Statement → ℕ
clients_said [] = 0
clients_said (Start node number ∷ earlier) = clients_said earlier + 1
clients_said (_ ∷ earlier) = clients_said earlier

-- whether a trace is open: the newest line that begins or ends one began it
abbrev pub is_open_said : List Statement → Bool
is_open_said [] = false
is_open_said (Operate (Begin trace) ∷ earlier) = true
is_open_said (Operate End ∷ earlier) = false
is_open_said (_ ∷ earlier) = is_open_said earlier

-- the operations so far, counted so
abbrev pub pieces_said : List Statement → ℕ
pieces_said [] = 0
pieces_said (Operate operation ∷ earlier) = pieces_said earlier + operation_pieces (setting_in (head_said earlier) settings.Size) operation
pieces_said (_ ∷ earlier) = pieces_said earlier

-- whether `done` was read
abbrev pub is_done_said : List Statement → Bool
is_done_said [] = false
is_done_said (Finish ∷ earlier) = true
is_done_said (_ ∷ earlier) = is_done_said earlier

-- all that the faults of the next line ask of the lines so far
pub record Past : Type 0 where
  pub head : List ℕ
  pub rules : List TriggerRule
  pub autos : List AutoRule
  pub started : ℕ
  pub is_open : Bool
  pub pieces : ℕ
  pub is_done : Bool

abbrev pub past_said : List Statement → Past
past_said earlier =
    record {
      head = head_said earlier;
      rules = rules_said earlier;
      autos = autos_said earlier;
      started = clients_said earlier;
      is_open = is_open_said earlier;
      pieces = pieces_said earlier;
      is_done = is_done_said earlier;
    }

-- worked examples
abbrev some_statements : List Statement
some_statements =
    Operate (Point 7 (replicate 70 255)) ∷ Operate (Begin (record { 0 = 9 })) ∷ Start 0 0 ∷ Put settings.Size 64 ∷ Put settings.Buffers 1 ∷ Put settings.Clients 1
    ∷ Put settings.Nodes 3 ∷ Put settings.Version 2 ∷ []

looked_back : (head_said some_statements ≡ 2 ∷ 3 ∷ 1 ∷ 1 ∷ 64 ∷ []) × (clients_said some_statements ≡ 1)
    × (is_open_said some_statements ≡ true) × (is_open_said (Operate End ∷ some_statements) ≡ false) × (is_done_said some_statements ≡ false)
looked_back = (refl, refl, refl, refl, refl)

-- the begin, and the point three times
a_piece_counts_once : pieces_said some_statements ≡ 4
a_piece_counts_once = refl
