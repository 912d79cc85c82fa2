-- Which lines stand in a whole journal: entries, a line for each role, the last line.
use Rattle.std.proofs.Common.{◌≡◌, ◌∙◌, ℕ, suc, ◌+◌, Bool, true, false, List, [], ◌∷◌, ◌++◌, length, map, refl, sym, ap, subst, arith, append_assoc}
use Rattle.rcv_tree.specs.declared.entry.Entry.{Entry}
use Rattle.rcv_journal.specs.declared.line.RoleLine.{RoleLine}
use Rattle.rcv_lines.specs.Line.{LineView, EntryLine, RoleLineOf, EndLine}
use Rattle.rcv_lines.specs.Reading.{MayCome}
use Rattle.rcv_lines.proofs.Order.{Ordered}
use Rattle.rcv_lines.proofs.Views.{said, end_said}

-- the lines of a journal behind so many lines of roles
abbrev pub AreFrom : ℕ → ℕ → List LineView → Type 0
AreFrom roles n [] = ⊥
AreFrom roles n (EntryLine e ∷ vs) = (n ≡ 0) × AreFrom roles n vs
AreFrom roles n (RoleLineOf line ∷ vs) = (line.role ≡ n) × AreFrom roles (suc n) vs
AreFrom roles n (EndLine limited ∷ vs) = (n ≡ roles) × (vs ≡ [])

-- how many lines of roles stand there, beside those before
abbrev pub count_from : ℕ → List LineView → ℕ
count_from n [] = n
count_from n (EntryLine e ∷ vs) = count_from n vs
count_from n (RoleLineOf line ∷ vs) = count_from (suc n) vs
count_from n (EndLine limited ∷ vs) = count_from n vs

abbrev pub has_end : List LineView → Bool
has_end [] = false
has_end (EntryLine e ∷ vs) = has_end vs
has_end (RoleLineOf line ∷ vs) = has_end vs
has_end (EndLine limited ∷ vs) = true

-- what stands behind the first lines of a journal may come there
pub may_come : (roles n : ℕ) (ws : List LineView) (v : LineView) (rest : List LineView) → AreFrom roles n (ws ++ v ∷ rest) → (has_end ws ≡ false) × MayCome roles (count_from n ws) v
may_come roles n [] (EntryLine e) rest are = (refl, are.0)
may_come roles n [] (RoleLineOf line) rest are = (refl, are.0)
may_come roles n [] (EndLine limited) rest are = (refl, are.0)
may_come roles n (EntryLine e ∷ ws) v rest are = may_come roles n ws v rest are.1
may_come roles n (RoleLineOf line ∷ ws) v rest are = may_come roles (suc n) ws v rest are.1
may_come roles n (EndLine limited ∷ []) v rest are = absurd (let none : v ∷ rest ≡ [] = are.1 in cc)
may_come roles n (EndLine limited ∷ w ∷ ws) v rest are = absurd (let none : w ∷ (ws ++ v ∷ rest) ≡ [] = are.1 in cc)

pub ends : (roles n : ℕ) (vs : List LineView) → AreFrom roles n vs → has_end vs ≡ true
ends roles n [] are = absurd are
ends roles n (EntryLine e ∷ vs) are = ends roles n vs are.1
ends roles n (RoleLineOf line ∷ vs) are = ends roles (suc n) vs are.1
ends roles n (EndLine limited ∷ vs) are = refl

-- a whole journal has them so
entries_from : (roles : ℕ) (entries : List Entry) (vs : List LineView) → AreFrom roles 0 vs → AreFrom roles 0 (map EntryLine entries ++ vs)
entries_from roles [] vs are = are
entries_from roles (e ∷ entries) vs are = (refl, entries_from roles entries vs are)

roles_from : (roles n : ℕ) (lines : List RoleLine) (limited : List ℕ) → Ordered n lines → length lines + n ≡ roles → AreFrom roles n (map RoleLineOf lines ++ EndLine limited ∷ [])
roles_from roles n [] limited are all =
    let here : n ≡ roles = omega (arith, all) in
    (here, refl)
roles_from roles n (line ∷ lines) limited are all =
    let next : length lines + suc n ≡ roles = omega (arith, all) in
    (are.0, roles_from roles (suc n) lines limited are.1 next)

pub whole_from : (roles : ℕ) (entries : List Entry) (lines : List RoleLine) (limited : List ℕ) → Ordered 0 lines → length lines ≡ roles → AreFrom roles 0 (said entries lines true limited)
whole_from roles entries lines limited are all =
    let zero_more : length lines + 0 ≡ roles = omega (arith, all) in
    subst (AreFrom roles 0) (sym (append_assoc (map EntryLine entries) (map RoleLineOf lines) (EndLine limited ∷ []))) (entries_from roles entries (map RoleLineOf lines ++ EndLine limited ∷ []) (roles_from roles 0 lines limited are zero_more))

-- counted and ended as it was read
behind_entries : (n : ℕ) (entries : List Entry) (vs : List LineView) → (count_from n (map EntryLine entries ++ vs) ≡ count_from n vs) × (has_end (map EntryLine entries ++ vs) ≡ has_end vs)
behind_entries n [] vs = (refl, refl)
behind_entries n (e ∷ entries) vs = behind_entries n entries vs

behind_roles : (n : ℕ) (lines : List RoleLine) (over : Bool) (limited : List ℕ) → (count_from n (map RoleLineOf lines ++ end_said over limited) ≡ length lines + n) × (has_end (map RoleLineOf lines ++ end_said over limited) ≡ over)
behind_roles n [] true limited = (omega arith, refl)
behind_roles n [] false limited = (omega arith, refl)
behind_roles n (line ∷ lines) over limited =
    let next = behind_roles (suc n) lines over limited in
    (next.0 ∙ omega arith, next.1)

pub counted : (entries : List Entry) (lines : List RoleLine) (over : Bool) (limited : List ℕ) → (count_from 0 (said entries lines over limited) ≡ length lines) × (has_end (said entries lines over limited) ≡ over)
counted entries lines over limited =
    let assoc = append_assoc (map EntryLine entries) (map RoleLineOf lines) (end_said over limited) in
    let before = behind_entries 0 entries (map RoleLineOf lines ++ end_said over limited) in
    let after = behind_roles 0 lines over limited in
    (ap (count_from 0) assoc ∙ before.0 ∙ after.0 ∙ omega arith, ap has_end assoc ∙ before.1 ∙ after.1)
