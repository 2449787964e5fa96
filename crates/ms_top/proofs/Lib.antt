mod Running
mod TextFaults
mod CauseLaws
mod RunLaws
mod Together
mod Alike
