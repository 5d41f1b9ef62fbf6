use Rattle.c_compile.proofs.Parameters.{function_put}
use Rattle.c_compile.proofs.function_code.put_function.Goals as goal

pub returns : goal.returns
returns c =
    function_put c.args.f.now _ _ _ _ _ _ _ _ _ _ _ _ c.as_slice-params.ensures c.as_slice.ensures.value c.in_ok-put.ensures c.in_ok-put-2.ensures c.made.ensures c.outermost-around.ensures c.in_ok-put_param_drops.ensures.code
    c.in_ok-put_param_drops.ensures.opened c.in_ok-put_items.ensures.code c.in_ok-put_items.ensures.around c.in_ok-put_params.ensures
