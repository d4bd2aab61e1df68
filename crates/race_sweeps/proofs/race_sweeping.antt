mod RunsRaced
