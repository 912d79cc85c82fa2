-- A machine's value is plain, and so it is read back.
use Rattle.std.proofs.Common.{ℕ, ◌<◌, ◌≤◌, ◌^◌, List, map, refl, inl, inr, arith, codes}
use Rattle.json.proofs.Printed.Utf8.{IsUtf8-are_ascii}
use Rattle.serde_json.specs.View.{items_of}
use Rattle.rcv_tree.specs.declared.event.Dir.{Dir}
use Rattle.rcv_tree.specs.declared.event.Dir.TheVariants.{Sent, Got}
use Rattle.rcv_tree.specs.Names.{name_at}
use Rattle.rcv_model.specs.Next.{IsPlaceOf}
use Rattle.rcv_model.proofs.Forms.{proper}
use Rattle.rcv_accept.specs.Accepted.{AcceptedView, IsAcceptedProtocol, text_of, roles_of, net_for}
use Rattle.rcv_project.specs.Act.{ActView, Sending, Receiving, Ended, AreInText, IsActAt}
use Rattle.rcv_project.specs.Local.{LocalView, IsLocalOf, act_at}
use Rattle.rcv_project.specs.LocalText.{is_own, places_to}
use Rattle.rcv_project.proofs.Machine.{are_in_text, has_place, own_act}
use Rattle.rcv_export.specs.Messages.{sorts_at}
use Rattle.rcv_export.specs.Pieces.{word_data}
use Rattle.rcv_export.specs.ReadBack.{IsReadAs}
use Rattle.rcv_export.specs.RoleJson.{peer_of, step_data, steps_data, place_data, place_of, role_data, role_json}
use Rattle.rcv_export.proofs.Plain.{IsPlain, ArePlain, line_is_read, plain_each, plain_map, plain_some}
use Rattle.rcv_export.proofs.Tables.{own_is_of}
use Rattle.rcv_export.proofs.Names.{ascii_is_text}

module _ (accepted : AcceptedView) (lawful : IsAcceptedProtocol accepted.protocol) where
  small : (n : ℕ) → n ≤ (net_for accepted).count → n < 2 ^ 64
  small n last = let few = lawful.form.few_points in omega (arith, last, few)

  plain_step : (dir : Dir) (p : ℕ) → p ≤ (net_for accepted).count → IsPlain 2 (step_data accepted dir p)
  plain_step dir p last = (
    1,
    omega arith,
    (
      IsUtf8-are_ascii (codes "label") refl,
      ascii_is_text ((net_for accepted).label p),
      (
        IsUtf8-are_ascii (codes "peer") refl,
        ascii_is_text (name_at accepted.protocol.roles (peer_of (net_for accepted) dir p)),
        (
          IsUtf8-are_ascii (codes "point") refl,
          small p last,
          (
            IsUtf8-are_ascii (codes "sorts") refl,
            (0, omega arith, plain_each 0 word_data (λ name. ascii_is_text name) (sorts_at (text_of accepted) p)),
            (IsUtf8-are_ascii (codes "value") refl, tt, tt),
          ),
        ),
      ),
    ),
    (
      ((refl, tt), ((refl, tt), ((refl, tt), ((refl, tt), tt)))),
      (((refl, tt), ((refl, tt), ((refl, tt), tt))), (((refl, tt), ((refl, tt), tt)), (((refl, tt), tt), (tt, tt)))),
    ),
  )

  plain_steps : (dir : Dir) (ps : List ℕ) → AreInText (net_for accepted) ps → IsPlain 3 (steps_data accepted dir ps)
  plain_steps dir ps inside = (2, omega arith, plain_map 2 (λ z. (1 ≤ z) × (z ≤ (net_for accepted).count)) (step_data accepted dir) (λ z there. plain_step dir z there.1) ps inside)

  plain_place : (r k : ℕ) (act : ActView) → k ≤ (net_for accepted).count → IsActAt (net_for accepted) r k act → IsPlain 4 (place_data accepted k act)
  plain_place r k (Sending ps) last at = (
    3,
    omega arith,
    (
      IsUtf8-are_ascii (codes "act") refl,
      IsUtf8-are_ascii (codes "send") refl,
      (
        IsUtf8-are_ascii (codes "next") refl,
        plain_steps Sent ps (are_in_text (net_for accepted) (roles_of accepted) r k ps (proper (text_of accepted) (roles_of accepted) lawful.form) at.0),
        (IsUtf8-are_ascii (codes "place") refl, small k last, tt),
      ),
    ),
    (((refl, tt), ((refl, tt), tt)), (((refl, tt), tt), (tt, tt))),
  )
  plain_place r k (Receiving from ps) last at = (
    3,
    omega arith,
    (
      IsUtf8-are_ascii (codes "act") refl,
      IsUtf8-are_ascii (codes "receive") refl,
      (
        IsUtf8-are_ascii (codes "next") refl,
        plain_steps Got ps (are_in_text (net_for accepted) (roles_of accepted) r k ps (proper (text_of accepted) (roles_of accepted) lawful.form) at.0),
        (
          IsUtf8-are_ascii (codes "peer") refl,
          ascii_is_text (name_at accepted.protocol.roles from),
          (IsUtf8-are_ascii (codes "place") refl, small k last, tt),
        ),
      ),
    ),
    (((refl, tt), ((refl, tt), ((refl, tt), tt))), (((refl, tt), ((refl, tt), tt)), (((refl, tt), tt), (tt, tt)))),
  )
  plain_place r k Ended last at = (
    3,
    omega arith,
    (
      IsUtf8-are_ascii (codes "act") refl,
      IsUtf8-are_ascii (codes "done") refl,
      (
        IsUtf8-are_ascii (codes "next") refl,
        (0, omega arith, tt),
        (IsUtf8-are_ascii (codes "place") refl, small k last, tt),
      ),
    ),
    (((refl, tt), ((refl, tt), tt)), (((refl, tt), tt), (tt, tt))),
  )

module _ (accepted : AcceptedView) (local : LocalView) (lawful : IsAcceptedProtocol accepted.protocol) (is : IsLocalOf (net_for accepted) local.role local) where
  plain_own : (k : ℕ) → k ≤ (net_for accepted).count → IsPlaceOf (net_for accepted) local.role k → IsPlain 4 (place_of accepted local k)
  plain_own k last here =
      plain_place accepted lawful local.role k (act_at local k) last (own_act (net_for accepted) local.role local k is (has_place (net_for accepted) local.role local k is here) here)

  plain_places : ArePlain 4 (items_of (map (place_of accepted local) (places_to (net_for accepted) local.role (net_for accepted).count)))
  plain_places = (
    plain_own 0 (omega arith) (inl refl),
    plain_some 4 (is_own (net_for accepted) local.role) (place_of accepted local) 1 (net_for accepted).count
        (λ k low high own.
        let last : k ≤ (net_for accepted).count = omega (arith, high) in
        plain_own k last (inr (low, last, own_is_of (net_for accepted) local.role k own))),
  )

  pub plain_machine : IsPlain 100 (role_data accepted local)
  plain_machine = (
    5,
    omega arith,
    (
      IsUtf8-are_ascii (codes "places") refl,
      (4, omega arith, plain_places),
      (
        IsUtf8-are_ascii (codes "protocol") refl,
        ascii_is_text accepted.protocol.name,
        (IsUtf8-are_ascii (codes "role") refl, ascii_is_text (name_at accepted.protocol.roles local.role), tt),
      ),
    ),
    (((refl, tt), ((refl, tt), tt)), (((refl, tt), tt), (tt, tt))),
  )

pub machines_are_read_back : (accepted : AcceptedView) (local : LocalView) → IsAcceptedProtocol accepted.protocol → IsLocalOf (net_for accepted) local.role local → IsReadAs (role_json accepted local) (role_data accepted local)
machines_are_read_back accepted local lawful is = line_is_read (role_data accepted local) (plain_machine accepted local lawful is)
