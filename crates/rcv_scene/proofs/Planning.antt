-- What is laid out is the record's scene.
use Rattle.std.proofs.Common.{◌≡◌, ℕ, Bool, List, [], sym, ◌∙◌, ap, subst}
use Rattle.rcv_tree.specs.declared.entry.Entry.{Entry}
use Rattle.rcv_points.specs.Follow.{PointsView, net_in}
use Rattle.rcv_session.specs.Session.{SessionView, roles_of, net_for}
use Rattle.rcv_picture.specs.declared.group.Group.{Group}
use Rattle.rcv_picture.specs.declared.group.Says.{Says}
use Rattle.rcv_fates.specs.Record.{RecordView, journal_of, HasKept}
use Rattle.rcv_story.specs.declared.story.Story.{Story}
use Rattle.rcv_scene.specs.declared.layout.Layout.{Layout}
use Rattle.rcv_scene.specs.Grid.{Scene, grid_of, scene_of, IsLayoutOf, IsProper}
use Rattle.rcv_scene.specs.declared.ends.RoleEnd.{RoleEnd}
use Rattle.rcv_scene.specs.Feet.{HasFeet}
use Rattle.rcv_scene.specs.Heads.{HasHeads}
use Rattle.rcv_scene.specs.Told.{Adds}
use Rattle.rcv_scene.specs.Drawn.{AreMarks, IsSceneOf, IsDrawnOnGrid}
use Rattle.rcv_scene.proofs.Telling.{drawn_from_none}

pub plan_is : (r : RecordView) (story : Story) (rows : List Says) (setup of_cast : SessionView) (points : PointsView) (entries : List Entry) (undone : List Bool) (l m : Layout) (roles : ℕ)
    → setup ≡ r.setup → of_cast ≡ r.setup → net_in points ≡ net_for of_cast → entries ≡ r.entries → AreMarks r undone → IsLayoutOf setup points rows entries undone story l
    → IsLayoutOf l.setup.now l.cast.points.now l.says.now l.entries.now l.undone.items l.story.now m → roles ≡ roles_of r.setup
    → IsProper roles m.says.now (grid_of m) → IsSceneOf r story rows (scene_of m)
plan_is r story rows setup of_cast points entries undone l m roles of_setup cast_of_setup of_points of_entries are first wide count proper =
    let says = wide.same_says ∙ first.same_says in
    let marked = wide.same_undone ∙ first.same_undone in
    record {
      same_setup = wide.same_setup ∙ first.same_setup ∙ of_setup;
      same_points = ap net_in (wide.same_points ∙ first.same_points) ∙ of_points ∙ ap net_for cast_of_setup;
      same_says = says;
      same_entries = wide.same_entries ∙ first.same_entries ∙ of_entries;
      same_story = wide.same_story ∙ first.same_story;
      marks = λ kept has. subst (λ (u : List Bool). HasKept (record r { undone = u }) kept) (sym marked) (are kept has);
      proper =
          subst (λ (s : List Says). IsProper (roles_of r.setup) s (grid_of m)) says
          (subst (λ (n : ℕ). IsProper n m.says.now (grid_of m)) count proper);
    }

pub on_grid : (r : RecordView) (story : Story) (ends : List RoleEnd) (rows : List Says) (scene : Scene) (groups : List Group) (says : List Says)
    → IsSceneOf r story rows scene → Adds (journal_of r) scene [] groups says → HasFeet scene.grid ends groups → HasHeads scene.setup scene.grid groups
    → IsDrawnOnGrid r story ends rows groups
on_grid r story ends rows scene groups says is adds feet heads =
    record { scene = scene; is_scene = is; drawn = drawn_from_none (journal_of r) scene groups says adds; feet = feet; heads = heads }
