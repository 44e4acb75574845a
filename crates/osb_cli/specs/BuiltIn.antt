-- The built-in settings, which serve where no file is named: one service with a plan that acts at once and one that
-- acts later.
use Rattle.std.specs.Prelude.{ℕ, List, ◌++◌, codes}

unfoldable pub built_in : List ℕ
built_in =
    codes "{\"platform\":{\"user\":\"platform\",\"password\":\"secret\"},\n" ++ (
    codes " \"backend\":{\"user\":\"backend\",\"password\":\"worker\"},\n" ++ (
    codes " \"catalog\":{\"services\":[{\"name\":\"store\",\"id\":\"svc\",\"description\":\"Key store\",\n" ++ (
    codes "  \"bindable\":true,\"bindings_retrievable\":true,\"plan_updateable\":true,\"plans\":[\n"
    ++ (
    codes "   {\"name\":\"small\",\"id\":\"p-sync\",\"description\":\"At once\"},\n" ++ (
    codes "   {\"name\":\"large\",\"id\":\"p-async\",\"description\":\"Later\",\"maintenance_info\":{\"version\":\"1.2.0\"}}]}]},\n" ++ (
    codes " \"modes\":{\"p-sync\":{\"credentials\":{\"uri\":\"mem:1\"}},\n" ++ (
    codes "  \"p-async\":{\"instances\":\"asynchronous\",\"bindings\":\"asynchronous\"}}}")))))))
