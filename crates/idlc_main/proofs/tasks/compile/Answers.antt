use Rattle.std.proofs.Common.{inl, inr, refl, subst}
use Rattle.idl_compiler.specs.Files.{IsCompiledFile, IsRefusedFile}
use Rattle.idlc_main.proofs.tasks.compile.Goals as goal

pub returns-in-Err-clause-answers : goal.returns-in-Err-clause-answers
returns-in-Err-clause-answers g c = record { line = tt; fault = inl c.in-Err.ensures.refused }

pub returns-in-Err-compile_file-clause-answers : goal.returns-in-Err-compile_file-clause-answers
returns-in-Err-compile_file-clause-answers g c = record {
  line = tt;
  fault = (
    c.in-Ok.ensures.read,
    subst (λ octets. IsRefusedFile octets c.in-Err-compile_file.fault) c.as_slice.ensures.value
        c.in-Err-compile_file.ensures.refused,
  );
}

pub returns-in-Ok-put_compiled-clause-answers : goal.returns-in-Ok-put_compiled-clause-answers
returns-in-Ok-put_compiled-clause-answers g c = record {
  line = record {
    octets = c.in-Ok.octets.items;
    read = c.in-Ok.ensures.read;
    file = c.in-Ok-compile_file.file;
    is = subst (λ octets. IsCompiledFile octets c.in-Ok-compile_file.file) c.as_slice.ensures.value
        c.in-Ok-compile_file.ensures.compiled;
    taken = c.in-Ok-put_compiled.ensures.taken;
    line_is = refl;
  };
  fault = tt;
}

pub returns-clause-answers : goal.returns-clause-answers
returns-clause-answers g c = record {
  line = tt;
  fault = inr (record {
    octets = c.in-Ok.octets.items;
    read = c.in-Ok.ensures.read;
    file = c.in-Ok-compile_file.file;
    is = subst (λ octets. IsCompiledFile octets c.in-Ok-compile_file.file) c.as_slice.ensures.value
        c.in-Ok-compile_file.ensures.compiled;
    unwritten = c.in-Err-put_compiled.ensures.refused;
  });
}
