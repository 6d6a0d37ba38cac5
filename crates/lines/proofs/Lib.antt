-- from what the called functions ensure to what is promised
mod Changing
